-- The refusals of a step one after the other, and what a step that is not refused has passed.
--   Passed r ws        no refusal of 6 to 11 applies
--   Outcome key r ws   the step is refused, or nothing is refused and it is the tick
use mathlib.Core.Bool.{Bool, true, false, not}
use mathlib.Core.List.{List}
use mathlib.Core.Logic.{◌⊎◌, inl, inr}
use mathlib.Core.Path.{◌≡◌, refl, sym}
use native.Mathlib.Nat.{eq-zero-or-pos}
use native.Mathlib.Omega.{arith}
use borrow.Author.Tests.{eqb-true, eqb-false, eq-eqb, ne_eqb, not-false}
use Prim.Native.Nat.{ℕ, ◌≤◌, ◌<◌}
use lib.Dec.{eqb}
use lib.ListN.{length}
use Rattle.std.specs.Prelude.{Err}
use Rattle.demand.proofs.Chains.{first-at, first-none, none_first}
use Rattle.demand.proofs.Numbered.{refusal_at-number, number-pos}
use Rattle.demand.specs.Limits.{ticks_most}
use Rattle.demand.specs.Numbered.{number_of, refusal_at}
use Rattle.demand.specs.declared.refusal.Refusal.{Refusal}
use Rattle.scheduler.specs.Bounds.{out_of_bounds, InBounds}
use Rattle.machine.specs.Live.{Live}
use Rattle.scheduler.specs.Runs.{row_in, row_count}
use Rattle.scheduler.specs.Scans.{any}
use Rattle.scheduler.specs.Steps.{early, heavy, step_tests, step_refusal, refused, step_by}
use Rattle.scheduler.specs.Tick.{ticked_by}
use Rattle.scheduler.specs.declared.Run.{Run}
use Rattle.scheduler.proofs.Steps.Known.{first-known}
use Rattle.scheduler.proofs.Steps.Clauses.{clauses, clauses-clock}

pub record Passed (r : Run) (ws : List ℕ) : Type 0 where
  pub in_bounds : InBounds r
  pub going : r.over ≡ false
  pub soon : r.clock < ticks_most
  pub count : length ws ≡ row_count r
  pub timely : any (early r.clock r.next ws) (row_count r) ≡ false
  pub light : any (heavy (row_in r) ws) (row_count r) ≡ false

-- ---- the number of each answer, from what its test and those before it say

module _ (r : Run) (ws : List ℕ) where
  -- The tests of a step, where they are said of the numbers that it was given.
  soon-test : (r.clock ≡ ticks_most → ⊥) → eqb r.clock ticks_most ≡ false
  soon-test soon = ne_eqb _ _ soon

  count-test : length ws ≡ row_count r → not (eqb (length ws) (row_count r)) ≡ false
  count-test count = rw (eq-eqb _ _ count)

  over-rows : {b : Bool} (p : ℕ → Bool) → length ws ≡ row_count r → any p (length ws) ≡ b → any p (row_count r) ≡ b
  over-rows p count e = rw (← count) e

  pub refusal-6 : true ≡ out_of_bounds r → 6 ≡ step_refusal r ws
  unfolding step_refusal step_tests
  refusal-6 a = first-at (step_tests r ws) 0 tt (sym a)

  module _ (in_bounds : false ≡ out_of_bounds r) where
    pub refusal-7 : r.over ≡ true → 7 ≡ step_refusal r ws
    unfolding step_refusal step_tests
    refusal-7 a = first-at (step_tests r ws) 1 (sym in_bounds, tt) a

    module _ (going : r.over ≡ false) where
      pub refusal-8 : r.clock ≡ ticks_most → 8 ≡ step_refusal r ws
      unfolding step_refusal step_tests
      refusal-8 a = first-at (step_tests r ws) 2 (sym in_bounds, (going, tt)) (eq-eqb _ _ a)

      module _ (soon : r.clock ≡ ticks_most → ⊥) where
        pub refusal-9 : (length ws ≡ row_count r → ⊥) → 9 ≡ step_refusal r ws
        unfolding step_refusal step_tests
        refusal-9 a = first-at (step_tests r ws) 3 (sym in_bounds, (going, (soon-test soon, tt))) (rw (ne_eqb _ _ a))

        module _ (count : length ws ≡ row_count r) where
          pub refusal-10 : any (early r.clock r.next ws) (length ws) ≡ true → 10 ≡ step_refusal r ws
          unfolding step_refusal step_tests
          refusal-10 a = first-at (step_tests r ws) 4 (sym in_bounds, (going, (soon-test soon, (count-test count, tt)))) (over-rows _ count a)

          module _ (timely : any (early r.clock r.next ws) (length ws) ≡ false) where
            pub refusal-11 : any (heavy (row_in r) ws) (length ws) ≡ true → 11 ≡ step_refusal r ws
            unfolding step_refusal step_tests
            refusal-11 a =
                first-at (step_tests r ws) 5 (sym in_bounds, (going, (soon-test soon, (count-test count, (over-rows _ count timely, tt))))) (over-rows _ count a)

            pub refusal-0 : any (heavy (row_in r) ws) (length ws) ≡ false → 0 ≡ step_refusal r ws
            unfolding step_refusal step_tests
            refusal-0 a =
                first-none (step_tests r ws) (sym in_bounds, (going, (soon-test soon, (count-test count, (over-rows _ count timely, (over-rows _ count a, tt))))))

-- ---- what no refusal says

pub passed : (r : Run) (ws : List ℕ) → step_refusal r ws ≡ 0 → Passed r ws
unfolding step_refusal step_tests
passed r ws e =
    let (bounds, (going, (last, (count, (timely, (light, _)))))) = none_first (step_tests r ws) refl e in
    let below : r.clock ≤ ticks_most = clauses-clock r (clauses r bounds) in
    let apart : r.clock ≡ ticks_most → ⊥ = eqb-false _ _ last in
    record {
      in_bounds = bounds;
      going = going;
      soon = omega arith;
      count = eqb-true _ _ (not-false _ count);
      timely = timely;
      light = light;
    }

-- ---- the answer itself

pub step-ticks : (key : Live → ℕ) (r : Run) (ws : List ℕ) → step_refusal r ws ≡ 0 → step_by key r ws ≡ ticked_by key r ws
unfolding step_by
step-ticks key r ws e = simp (eq-eqb _ _ e)

pub step-refused : (key : Live → ℕ) (r : Run) (ws : List ℕ) (k : ℕ) → k ≡ step_refusal r ws → (k ≡ 0 → ⊥) → step_by key r ws ≡ refused r k
unfolding step_by
step-refused key r ws k e n = rw (← e, ne_eqb k 0 n)

-- The refusal of a number is the one that has it.
pub step-told : (key : Live → ℕ) (r : Run) (ws : List ℕ) (e : Refusal) → number_of e ≡ step_refusal r ws → record { run = r; answer = Err e } ≡ step_by key r ws
step-told key r ws e n =
    let some : number_of e ≡ 0 → ⊥ = λ z. omega (arith, number-pos e) in
    rw (step-refused key r ws (number_of e) n some, refusal_at-number e)

-- Each number of the tests is a refusal's.
pub step-known : (r : Run) (ws : List ℕ) → (step_refusal r ws ≡ 0 → ⊥) → number_of (refusal_at (step_refusal r ws)) ≡ step_refusal r ws
unfolding step_refusal step_tests
step-known r ws = first-known (step_tests r ws) (refl, (refl, (refl, (refl, (refl, (refl, tt))))))

-- A step is refused, or nothing is refused and it is the tick.
pub data Outcome (key : Live → ℕ) (r : Run) (ws : List ℕ) : Type 0 where
  stays : (k : ℕ) → step_by key r ws ≡ refused r k → Outcome key r ws
  goes : step_refusal r ws ≡ 0 → step_by key r ws ≡ ticked_by key r ws → Outcome key r ws

pub outcome : (key : Live → ℕ) (r : Run) (ws : List ℕ) → Outcome key r ws
outcome key r ws = go (eq-zero-or-pos (step_refusal r ws))
  where
    go : (step_refusal r ws ≡ 0) ⊎ (0 < step_refusal r ws) → Outcome key r ws
    go (inl none) = goes none (step-ticks key r ws none)
    go (inr some) = stays (step_refusal r ws) (step-refused key r ws (step_refusal r ws) refl (λ none. omega arith))
