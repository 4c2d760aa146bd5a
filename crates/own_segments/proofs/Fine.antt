-- Our own schedule and the rules of the judge: none is broken for as long as the run is not over, and the first where it is late.
use mathlib.Core.Bool.{Bool, true, false, not, false≢true}
use mathlib.Core.List.{List, [], ◌∷◌}
use mathlib.Core.Logic.{◌⊎◌, inl, inr}
use mathlib.Core.Path.{◌≡◌, refl, sym, ap, subst, ◌∙◌}
use native.Mathlib.Nat.{eq-zero-or-pos}
use native.Mathlib.Omega.{arith}
use Prim.Native.Nat.{ℕ, zero, suc, ◌+◌, ◌*◌, ◌≤◌, ◌<◌}
use lib.ListN.{length, get_or}
use Rattle.std.specs.Prelude.{Option, None, Some}
use Rattle.demand.proofs.Divide.{le-or-lt}
use Rattle.demand.proofs.Inside.Places.{each_at}
use Rattle.demand.proofs.Refusals.{refusal-in-range}
use Rattle.demand.specs.Demands.{ceil}
use Rattle.demand.specs.Limits.{ticks_most}
use Rattle.demand.specs.Refusals.{table_refusal}
use Rattle.demand.specs.Rows.{Row, tasks_of, handlers_of, row_at, no_row, Sound}
use Rattle.guarantees.proofs.LateExactly.{late-exactly}
use Rattle.guarantees.proofs.NeverLate.{never-late}
use Rattle.guarantees.proofs.View.Fresh.{fresh-run, fresh-going}
use Rattle.guarantees.proofs.View.Late.{LateTask, named-late}
use Rattle.guarantees.specs.Patterns.{pattern_to}
use Rattle.guarantees.specs.Synchronous.{beat_of, sync_run}
use Rattle.machine.specs.Live.{due_of}
use Rattle.own_segments.proofs.Drawings.{segments-right}
use Rattle.own_segments.proofs.Promise.{own-readable}
use Rattle.own_segments.proofs.Runs.{sync-follows, sync-tasks}
use Rattle.own_segments.proofs.Shares.{Shares, shares, own-ran, own-goes, arrived-task, arrived-handler}
use Rattle.own_segments.specs.Fine.{OwnAccepted, OwnBroken}
use Rattle.own_segments.specs.Own.{who_ran, own}
use Rattle.own_segments.specs.Promise.{own_segments}
use Rattle.scheduler.proofs.Steps.Clauses.{clauses, clauses-due}
use Rattle.scheduler.specs.Bounds.{names}
use Rattle.scheduler.specs.Reached.{offered_by}
use Rattle.scheduler.specs.Scans.{at}
use Rattle.scheduler.specs.Tick.{GoesTo, owed_with, key_in, ran_by, is_task}
use Rattle.scheduler.specs.declared.Ran.{Ran}
use Rattle.scheduler.specs.declared.Ran.TheVariants.{Handler, Task, Idle}
use Rattle.scheduler.specs.declared.Run.{Run}
use Rattle.segments.proofs.Accepting.{nothing-broken, ticks-same, owed_same, first-same, accepted-same}
use Rattle.segments.proofs.Timely.Lives.{ceil-is}
use Rattle.segments.specs.Given.{Who, task_ticks, handler_ticks, work_by}
use Rattle.segments.specs.Rules.{Owed, NoneWaits, First, Right, InTime, unfinished}
use Rattle.segments.specs.Segments as segments
use Rattle.verdict.specs.Promise.{figures}

-- A row that is not in the table costs nothing.
none-at : (rs : List Row) (i : ℕ) → length rs ≤ i → row_at rs i ≡ no_row
none-at [] i l = refl
none-at (r ∷ rs) zero l = absurd (omega arith)
none-at (r ∷ rs) (suc i) l = none-at rs i (omega arith)

no-work : (rs : List Row) (i x : ℕ) → length rs ≤ i → (row_at rs i).cost * x ≡ 0
no-work rs i x l = ap (λ (r : Row). r.cost * x) (none-at rs i l) ∙ (let z : 0 * x ≡ 0 = omega arith in z)

-- A late row that is rightly named.
named-task : (l first : Option ℕ) → names l first ≡ true → is_task first ≡ true
named-task None first e = absurd (false≢true e)
named-task (Some i) None e = absurd (false≢true e)
named-task (Some i) (Some j) e = refl

not-not : (b : Bool) → not b ≡ false → b ≡ true
not-not true e = refl
not-not false e = absurd (false≢true (sym e))

-- A fresh run is not over.
fresh-on-time : (t h : List ℕ) (e : table_refusal t h ≡ 0) → (sync_run t h 0).over ≡ false
unfolding pattern_to offered_by
fresh-on-time t h e = ap (λ (r : Run). r.over) (fresh-run t h e) ∙ fresh-going t h e

module _ (t h : List ℕ) (e : table_refusal t h ≡ 0) where
  abbrev ts : List Row
  ts = tasks_of t

  abbrev hs : List Row
  hs = handlers_of h

  abbrev σ : ℕ → Who
  σ = own t h

  -- ---- every tick is right

  module _ (n : ℕ) (soon : n < ticks_most) (going : (m : ℕ) → m ≤ n → (sync_run t h m).over ≡ false) where
    abbrev owed : List ℕ
    owed = owed_with (sync_run t h n) (beat_of t h n)

    s : Shares t h e n
    s = shares t h e n (omega arith) (λ m l. going m (omega arith))

    none-waits : ((j : ℕ) → j < length hs → get_or owed (length ts + j) 0 ≡ 0) → NoneWaits hs σ n
    none-waits none j = go (le-or-lt (length hs) j)
      where
        go : (length hs ≤ j) ⊎ (j < length hs) → work_by (row_at hs j) (suc n) ≤ handler_ticks σ j n
        go (inl l) = omega (arith, no-work hs j (ceil (suc n) (row_at hs j).period) l)
        go (inr l) = omega (arith, arrived-handler t h e n soon going s j l, none j l)

    by : (ran : Ran) → GoesTo (key_in due_of (sync_run t h n) (beat_of t h n)) owed (length ts) (length hs) ran
        → Owed ts hs σ n (who_ran ran) × First hs σ n (who_ran ran)
    unfolding GoesTo
    by (Handler x) g = (omega (arith, arrived-handler t h e n soon going s x g.row, g.work), tt)
    by (Task x) g = (omega (arith, arrived-task t h e n soon going s x g.row, g.work), none-waits g.no-handler)
    by Idle g = (tt, none-waits g.no-handler)

    pub own-right : Right (tasks_of t) (handlers_of h) (own t h) n
    own-right =
        let both = by (ran_by due_of (sync_run t h n) (beat_of t h n)) (own-goes t h e n soon going) in
        let who = sym (own-ran t h e n soon going) in
        record { owed = subst (λ (w : Who). Owed ts hs σ n w) who both.0; first = subst (λ (w : Who). First hs σ n w) who both.1 }

  -- ---- every job is in time

  module _ (n : ℕ) (soon : n ≤ ticks_most) (before : (m : ℕ) → m < n → (sync_run t h m).over ≡ false) where
    abbrev r : Run
    r = sync_run t h n

    share : Shares t h e n
    share = shares t h e n soon before

    sound : (i : ℕ) → i < length ts → Sound (row_at ts i)
    sound i l = each_at Sound ts (refusal-in-range t h e).deadlines i l

    pub own-in-time : (sync_run t h n).over ≡ false → InTime (tasks_of t) (own t h) n
    own-in-time going i k q = go (le-or-lt (length ts) i)
      where
        p : ℕ
        p = (row_at ts i).period

        d : ℕ
        d = (row_at ts i).deadline

        go : (length ts ≤ i) ⊎ (i < length ts) → (row_at ts i).cost * suc k ≤ task_ticks σ i n
        go (inl l) = omega (arith, no-work ts i (suc k) l)
        go (inr l) = there (eq-zero-or-pos (get_or r.owed i 0))
          where
            jobs : ceil n p ≡ suc k
            jobs = ceil-is p n (suc k) (omega (arith, q, (sound i l).fits)) (omega (arith, q, (sound i l).some))

            due : get_or r.due i 0 ≡ n
            due = omega (arith, share.due i l (omega (arith, q, (sound i l).some)), ap (λ (x : ℕ). x * p) jobs, q)

            there : (get_or r.owed i 0 ≡ 0) ⊎ (0 < get_or r.owed i 0) → (row_at ts i).cost * suc k ≤ task_ticks σ i n
            there (inl none) = omega (arith, share.of-tasks i l, ap (λ (x : ℕ). (row_at ts i).cost * x) jobs)
            there (inr some) =
                let ahead
                = clauses-due r (clauses r (sync-follows t h e n soon before).well-made.in_bounds) going i
                (omega (arith, sync-tasks t h e n)) some in
                absurd (omega (arith, ahead, due, (sync-follows t h e n soon before).clock))

    -- ---- the first that is not

    late-task : (sync_run t h n).over ≡ true → LateTask n (at r.due) r.owed r.task_count
    late-task over =
        let wrong = (clauses r (sync-follows t h e n soon before).well-made.in_bounds).late in
        let named = not-not _ (rw over at wrong) in
        subst (λ (c : ℕ). LateTask c (at r.due) r.owed r.task_count) (sync-follows t h e n soon before).clock
        (named-late r.clock (at r.due) r.owed r.task_count (named-task r.late _ named))

    some-clock : (sync_run t h n).over ≡ true → 0 < n
    some-clock over = go n refl over
      where
        go : (x : ℕ) → n ≡ x → (sync_run t h x).over ≡ true → 0 < x
        go zero q o = absurd (false≢true (sym (fresh-on-time t h e) ∙ o))
        go (suc x) q o = omega arith

    pub record Unfinished : Type 0 where
      pub row : ℕ
      pub job : ℕ
      pub due : job * (row_at (tasks_of t) row).period + (row_at (tasks_of t) row).deadline ≡ n
      pub left : task_ticks (own t h) row n < (row_at (tasks_of t) row).cost * suc job

    pub own-late : (sync_run t h n).over ≡ true → Unfinished
    own-late over =
        let task = late-task over in
        let l : task.row < length ts = omega (arith, task.within, sync-tasks t h e n) in
        made task.row l task.work task.now (ceil n (row_at ts task.row).period) refl
      where
        made : (i : ℕ) → i < length ts → 0 < get_or r.owed i 0 → get_or r.due i 0 ≡ n → (c : ℕ) → ceil n (row_at ts i).period ≡ c
            → Unfinished
        made i l work now zero q =
            absurd
            (omega (arith, share.due i l (some-clock over), some-clock over, ap (λ (x : ℕ). x * (row_at ts i).period) q, (sound i l).fits))
        made i l work now (suc k) q = record {
          row = i;
          job = k;
          due = omega (arith, share.due i l (some-clock over), ap (λ (x : ℕ). x * (row_at ts i).period) q);
          left = omega (arith, share.of-tasks i l, ap (λ (x : ℕ). (row_at ts i).cost * x) q);
        }

-- ---- so our own segments are judged

-- They say what our own schedule does.
own-says : (t h : List ℕ) (L x : ℕ) → x < L → own t h x ≡ segments.at (own_segments t h L) x
own-says t h L x l = (segments-right (own t h) L).says x l

pub own-accepted : OwnAccepted
own-accepted t h L r says word answered =
    let readable = own-readable t h L answered in
    let e = readable.table in
    let never : (m : ℕ) → (sync_run t h m).over ≡ false = λ m. never-late t h r says word (pattern_to (beat_of t h) m) in
    accepted-same (own t h) (segments.at (own_segments t h L)) L (own-says t h L) (tasks_of t) (handlers_of h)
    (record {
      ticks = λ x l. own-right t h e x (omega (arith, readable.soon)) (λ m k. never m);
      clocks = λ x l. own-in-time t h e x (omega (arith, readable.soon)) (λ m k. never m) (never x);
    })

pub own-broken : OwnBroken
own-broken t h L r says word answered within =
    let late = late-exactly t h r says word in
    let lost = own-late t h e l (omega (arith, soon)) late.on-time late.over in
    record {
      here =
          unfinished lost.row lost.job within lost.due
          (subst (λ (x : ℕ). x < (row_at (tasks_of t) lost.row).cost * suc lost.job)
          (sym ((ticks-same σ τ L (own-says t h L) l within).0 lost.row)) lost.left);
      before = λ s k.
          nothing-broken (tasks_of t) (handlers_of h) τ L s
          (λ m.
          let right = own-right t h e s (omega (arith, soon)) (λ x j. late.on-time x (omega arith)) in
          record {
            owed = subst (λ (w : Who). Owed (tasks_of t) (handlers_of h) τ s w) (own-says t h L s m)
                (owed_same σ τ L (own-says t h L) (tasks_of t) (handlers_of h) s m (σ s) right.owed);
            first = subst (λ (w : Who). First (handlers_of h) τ s w) (own-says t h L s m)
                (first-same σ τ L (own-says t h L) (tasks_of t) (handlers_of h) s m (σ s) right.first);
          })
          (λ m i j q.
          let done = own-in-time t h e s (omega (arith, soon)) (λ x y. late.on-time x (omega arith)) (late.on-time s k) i j q in
          subst (λ (x : ℕ). (row_at (tasks_of t) i).cost * suc j ≤ x) (sym ((ticks-same σ τ L (own-says t h L) s m).0 i)) done);
    }
  where
    l : ℕ
    l = (figures r).interval

    σ : ℕ → Who
    σ = own t h

    τ : ℕ → Who
    τ = segments.at (own_segments t h L)

    e : table_refusal t h ≡ 0
    e = (own-readable t h L answered).table

    soon : L ≤ ticks_most
    soon = (own-readable t h L answered).soon
