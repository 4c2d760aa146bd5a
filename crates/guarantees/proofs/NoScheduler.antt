-- After a no no schedule that puts handlers first meets every deadline up to the end of the named interval; ours meets those before; and where some schedule meets them for ever, the verdict is a yes.
use mathlib.Core.List.{List}
use mathlib.Core.Path.{◌≡◌, refl}
use native.Mathlib.Omega.{arith}
use Prim.Native.Nat.{suc}
use Rattle.demand.proofs.Inside.Sizes.{tasks-valid, handlers-positive}
use Rattle.demand.specs.Refusals.{table_refusal}
use Rattle.demand.specs.Rows.{Row, tasks_of, handlers_of}
use Rattle.verdict.proofs.Readable.{readable-table}
use Rattle.verdict.proofs.Lightening.{says-fits}
use Rattle.verdict.specs.Lengths.{AlwaysPasses}
use Rattle.verdict.specs.Promise.{Word, figures, SaysFits, SaysBy, Says, VerdictSays}
use Rattle.verdict.specs.Promise.Word.{fits, misses, refused}
use Rattle.guarantees.specs.NoScheduler.{NoScheduler, OursIsOne, Met, FitsMet, Optimal}
use Rattle.machine.specs.Live.{due_of}
use Rattle.machine.specs.Machine.{serve_by}
use Rattle.machine.specs.Machine.{sync}
use Rattle.machine.proofs.Least.{sync-timely, on-time-below}
use Rattle.guarantees.proofs.Named.{named-valid, named-positive, named-shortest}
use Rattle.machine.proofs.No.{fails-untimely}
use Rattle.machine.proofs.Sync.{serve-by-ran}

pub no-scheduler : NoScheduler
no-scheduler t h r says word xs ys run =
    fails-untimely (tasks_of t) (handlers_of h) (named-valid t h r says word) (named-positive t h r says word) (named-shortest t h r says word).fails run

pub ours-is-one : OursIsOne
ours-is-one t h r says word n below =
    let ts : List Row = tasks_of t in
    let hs : List Row = handlers_of h in
    sync-timely (serve_by due_of) (serve-by-ran due_of) ts hs n
    (λ m l.
    on-time-below ts hs (named-valid t h r says word) (named-positive t h r says word) (figures r).interval (named-shortest t h r says word).least m (omega arith))

-- A no is refuted by the schedule that is on time at its interval's end, a refusal by the table's being readable.
pub optimal : Optimal
unfolding VerdictSays Says SaysBy
optimal t h r readable says met = go (figures r).word refl says
  where
    go : (w : Word) → (figures r).word ≡ w → SaysBy w t h (figures r) → w ≡ fits
    go fits e s = refl
    go misses e s = let m : Met t h (figures r).interval = met (figures r).interval in absurd (no-scheduler t h r says e m.tasks m.handlers m.timely)
    go refused e s = absurd (omega (arith, s.unreadable))

-- After a yes there is such a schedule: ours, which is on time at every clock. So the verdict is a yes exactly where there is one.
pub fits-met : FitsMet
unfolding VerdictSays AlwaysPasses
fits-met t h r says word n =
    let ts : List Row = tasks_of t in
    let hs : List Row = handlers_of h in
    let saying : SaysFits t h (figures r) = says-fits t h (figures r) word says in
    let e : table_refusal t h ≡ 0 = readable-table t h saying.readable in
    record {
      tasks = (sync n ts hs).tasks;
      handlers = (sync n ts hs).handlers;
      timely =
          sync-timely (serve_by due_of) (serve-by-ran due_of) ts hs n
          (λ m l. on-time-below ts hs (tasks-valid t h e) (handlers-positive t h e) (suc m) (λ k from below. saying.passes k from) m (omega arith));
    }
