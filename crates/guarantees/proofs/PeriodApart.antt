-- Two accepted arrivals of a row are at least its period apart: its next legal tick never moves back.
use mathlib.Core.List.{List, [], ◌∷◌}
use mathlib.Core.Path.{◌≡◌, sym, ap, subst}
use native.Mathlib.Omega.{arith}
use Prim.Native.Nat.{ℕ, ◌+◌, ◌≤◌, ◌<◌}
use lib.ListN.{get_or}
use Rattle.guarantees.specs.PeriodApart.{PeriodApart}
use Rattle.machine.specs.Live.{Live}
use Rattle.scheduler.specs.Reached.{offered_by, WellMade}
use Rattle.scheduler.specs.Runs.{row_in, row_count}
use Rattle.scheduler.specs.Steps.{step_by}
use Rattle.scheduler.specs.Tick.{ticked_by}
use Rattle.scheduler.specs.declared.Run.{Run}
use Rattle.scheduler.specs.declared.Stepped.{Stepped}
use Rattle.scheduler.proofs.Steps.Answers.{Passed, passed, Outcome, outcome}
use Rattle.scheduler.proofs.Steps.Answers.Outcome.{stays, goes}
use Rattle.scheduler.proofs.Reached.{step-in-bounds, offered-in-bounds}
use Rattle.scheduler.proofs.Reached.Keeps.{Came}
use Rattle.scheduler.proofs.Reached.Keeps.Came.{nothing, legal}
use Rattle.scheduler.proofs.Reached.KeepsBounds.{next_now, arrival}
use Rattle.guarantees.proofs.LegalArrivals.{passed-legal, legal-arrivals}

module _ (key : Live → ℕ) (r : Run) (ws : List ℕ) where
  -- A step adds no row.
  pub count-stays : row_count (step_by key r ws).run ≡ row_count r
  unfolding ticked_by
  count-stays = go (outcome key r ws)
    where
      go : Outcome key r ws → row_count (step_by key r ws).run ≡ row_count r
      go (stays k e) = ap (λ (x : Stepped). row_count x.run) e
      go (goes a e) = ap (λ (x : Stepped). row_count x.run) e

  -- A next legal tick stays, or an arrival that is not before it moves it on.
  next_grows : WellMade r → (k : ℕ) → k < row_count r → get_or r.next k 0 ≤ get_or (step_by key r ws).run.next k 0
  unfolding ticked_by
  next_grows s k l = go (outcome key r ws)
    where
      moved : (p : Passed r ws) → Came r.clock (row_in r k) (get_or r.next k 0) (get_or ws k 0) (get_or (next_now r ws s.shaped p) k 0)
          → get_or r.next k 0 ≤ get_or (next_now r ws s.shaped p) k 0
      moved p (nothing none same) = omega arith
      moved p (legal some on timely light) = omega arith

      go : Outcome key r ws → get_or r.next k 0 ≤ get_or (step_by key r ws).run.next k 0
      go (stays j e) = rw e (omega arith)
      go (goes a e) =
          let p : Passed r ws = passed r ws a in
          subst (λ (x : Stepped). get_or r.next k 0 ≤ get_or x.run.next k 0) (sym e) (moved p (arrival r ws s.shaped p k l))

-- So over any offers.
record Grown (r after : Run) (k : ℕ) : Type 0 where
  row : k < row_count after
  next : get_or r.next k 0 ≤ get_or after.next k 0

offered-grows : (key : Live → ℕ) (offers : List (List ℕ)) (r : Run) (k : ℕ) → WellMade r → k < row_count r → Grown r (offered_by key offers r) k
unfolding offered_by
offered-grows key [] r k s l = record { row = l; next = omega arith }
offered-grows key (ws ∷ offers) r k s l =
    let rest = offered-grows key offers (step_by key r ws).run k (step-in-bounds key r ws s) (omega (arith, count-stays key r ws)) in
    record { row = rest.row; next = omega (arith, rest.next, next_grows key r ws s k l) }

pub period-apart : PeriodApart
period-apart key r ws ws' offers k s l a some a' some' =
    let p : Passed r ws = passed r ws a in
    let next : Run = (step_by key r ws).run in
    let last : Run = offered_by key offers next in
    let s' : WellMade next = step-in-bounds key r ws s in
    let grown = offered-grows key offers next k s' (omega (arith, count-stays key r ws)) in
    let then = passed-legal last ws' (offered-in-bounds key offers next s').shaped (passed last ws' a') k grown.row in
    let moved : get_or next.next k 0 ≡ r.clock + (row_in r k).period = (legal-arrivals r ws s p.going p.soon).apart key a k l some in
    omega (arith, moved, grown.next, then.in-time some')
