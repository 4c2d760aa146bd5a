-- What is accepted: a number for each row, each a legal arrival; and arrivals are a period apart.
use mathlib.Core.Bool.{Bool, true, false, not, ◌&&◌}
use mathlib.Core.List.{List}
use mathlib.Core.Path.{◌≡◌, refl, sym, ap, ◌∙◌}
use native.Mathlib.Omega.{arith}
use borrow.Author.Tests.{eqb-false, le-ltb}
use Prim.Native.Nat.{ℕ, ◌+◌, ◌≤◌, ◌<◌}
use lib.Dec.{ltb, eqb}
use lib.ListN.{length, get_or}
use Rattle.demand.specs.Limits.{ticks_most}
use Rattle.guarantees.specs.LegalArrivals.{Accepted, LegalArrival, LegalArrivals}
use Rattle.machine.specs.Live.{Live}
use Rattle.scheduler.specs.Reached.{WellMade}
use Rattle.scheduler.specs.Runs.{row_in, row_count, Shaped}
use Rattle.scheduler.specs.Steps.{early, heavy, step_by}
use Rattle.scheduler.specs.Tick.{ticked_by}
use Rattle.scheduler.specs.declared.Run.{Run}
use Rattle.scheduler.specs.declared.Stepped.{Stepped}
use Rattle.scheduler.proofs.Steps.Answers.{Passed, passed, refusal-0, step-ticks}
use Rattle.scheduler.proofs.Reached.Keeps.{Came}
use Rattle.scheduler.proofs.Reached.Keeps.Came.{nothing, legal}
use Rattle.scheduler.proofs.Reached.KeepsBounds.{next_now, arrival}
use Rattle.scheduler.proofs.Steps.Scan.{any_false}

-- What no refusal of 10 or 11 says of one row.
module _ (r : Run) (ws : List ℕ) (shaped : Shaped r) (p : Passed r ws) (k : ℕ) (l : k < row_count r) where
  pub passed-legal : LegalArrival r k (get_or ws k 0)
  passed-legal = go (arrival r ws shaped p k l)
    where
      go : Came r.clock (row_in r k) (get_or r.next k 0) (get_or ws k 0) (get_or (next_now r ws shaped p) k 0) → LegalArrival r k (get_or ws k 0)
      go (nothing none same) = record { in-time = λ some. absurd (omega arith); in-cost = omega arith }
      go (legal some moved timely light) = record { in-time = λ some. timely; in-cost = light }

  pub passed-moves : 0 < get_or ws k 0 → get_or (next_now r ws shaped p) k 0 ≡ r.clock + (row_in r k).period
  passed-moves work = go (arrival r ws shaped p k l)
    where
      go : Came r.clock (row_in r k) (get_or r.next k 0) (get_or ws k 0) (get_or (next_now r ws shaped p) k 0) → get_or (next_now r ws shaped p) k 0 ≡ r.clock + (row_in r k).period
      go (nothing none same) = absurd (omega arith)
      go (legal some moved timely light) = moved

  pub passed-waits : get_or ws k 0 ≡ 0 → get_or (next_now r ws shaped p) k 0 ≡ get_or r.next k 0
  passed-waits none = go (arrival r ws shaped p k l)
    where
      go : Came r.clock (row_in r k) (get_or r.next k 0) (get_or ws k 0) (get_or (next_now r ws shaped p) k 0) → get_or (next_now r ws shaped p) k 0 ≡ get_or r.next k 0
      go (nothing none same) = same
      go (legal some moved timely light) = absurd (omega arith)

-- And the reverse.
not-early : (clock next w : ℕ) → (0 < w → next ≤ clock) → (not (eqb w 0) && ltb clock next) ≡ false
not-early clock next w timely = go (eqb w 0) refl
  where
    go : (b : Bool) → eqb w 0 ≡ b → (not b && ltb clock next) ≡ false
    go true e = refl
    go false e =
        let some : w ≡ 0 → ⊥ = eqb-false w 0 e in
        le-ltb clock next (timely (omega arith))

module _ (r : Run) (ws : List ℕ) (s : WellMade r) (going : r.over ≡ false) (soon : r.clock < ticks_most) where
  pub legal-accepted : length ws ≡ row_count r → ((k : ℕ) → k < row_count r → LegalArrival r k (get_or ws k 0)) → Accepted r ws
  legal-accepted count each =
      sym
      (refusal-0 r ws (sym s.in_bounds) going (λ e. omega arith) count
      (any_false (early r.clock r.next ws) (length ws) (λ k l. not-early r.clock (get_or r.next k 0) (get_or ws k 0) (each k (omega arith)).in-time))
      (any_false (heavy (row_in r) ws) (length ws) (λ k l. le-ltb (row_in r k).cost (get_or ws k 0) (each k (omega arith)).in-cost)))

  -- The next arrivals after an accepted step.
  step-next : (key : Live → ℕ) (a : Accepted r ws) → (k : ℕ) → get_or (step_by key r ws).run.next k 0 ≡ get_or (next_now r ws s.shaped (passed r ws a)) k 0
  unfolding ticked_by
  step-next key a k = ap (λ (x : Stepped). get_or x.run.next k 0) (step-ticks key r ws a)

pub legal-arrivals : LegalArrivals
legal-arrivals r ws s going soon = record {
  count = λ a. (passed r ws a).count;
  legal = λ a k l. passed-legal r ws s.shaped (passed r ws a) k l;
  apart = λ key a k l work. step-next r ws s going soon key a k ∙ passed-moves r ws s.shaped (passed r ws a) k l work;
  waits = λ key a k l none. step-next r ws s going soon key a k ∙ passed-waits r ws s.shaped (passed r ws a) k l none;
  accepted = legal-accepted r ws s going soon;
}
