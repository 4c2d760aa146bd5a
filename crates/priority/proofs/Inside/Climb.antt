-- The climb: what is claimed grows with the length and with the ranks, so each turn leaves nothing behind.
use mathlib.Core.Bool.{Bool, true, false}
use mathlib.Core.List.{List, [], ◌∷◌}
use native.Mathlib.Nat.{mul-le-mul_left}
use native.Mathlib.Omega.{arith}
use Prim.Native.Nat.{ℕ, suc, ◌+◌, ◌≤◌, ◌<◌}
use lib.Dec.{ltb}
use Rattle.demand.specs.Demands.{called_by, called}
use Rattle.demand.specs.Inside.Sizes.{called_most, Small}
use Rattle.demand.specs.Limits.{figure_most}
use Rattle.demand.specs.Refusals.{InRange}
use Rattle.demand.specs.Rows.{Row}
use Rattle.demand.specs.Tests.{pick}
use Rattle.demand.proofs.Demands.{called-mono}
use Rattle.demand.proofs.Divide.{ceil-mono}
use Rattle.demand.proofs.Inside.Sizes.{called-most}
use Rattle.priority.specs.Inside.Climb.{Climbing}
use Rattle.priority.specs.Inside.Ranks.{rank, work, claimed, Fewer}
use Rattle.priority.proofs.Inside.Ranks.{work-more, work-le-called}
use Rattle.priority.proofs.Response.{below-climbs}

pick-le : (b : Bool) (x y : ℕ) → x ≤ y → pick b x 0 ≤ pick b y 0
pick-le true x y h = h
pick-le false x y h = omega arith

work-mono : (end j : ℕ) (qs : List Row) (x y : ℕ) → x ≤ y → work end j qs x ≤ work end j qs y
unfolding work
work-mono end j [] x y h = omega arith
work-mono end j (q ∷ qs) x y h =
    omega (
      arith,
      pick-le (ltb (rank j q) end) (called_by x q) (called_by y q) (mul-le-mul_left q.cost (ceil-mono q.period h)),
      work-mono end (suc j) qs x y h,
    )

pub claimed-mono : (ts hs : List Row) (end x y : ℕ) → x ≤ y → claimed ts hs end x ≤ claimed ts hs end y
unfolding claimed
claimed-mono ts hs end x y h = omega (arith, called-mono hs h, work-mono end 0 ts x y h)

pub claimed-more : (ts hs : List Row) (end more l : ℕ) → end ≤ more → claimed ts hs end l ≤ claimed ts hs more l
unfolding claimed
claimed-more ts hs end more l h = omega (arith, work-more end more 0 ts l h)

-- What is claimed of a length up to the greatest deadline fits a word.
module _ (ts hs : List Row) (g : InRange ts hs) where
  pub tasks-fewer : Fewer ts 0
  tasks-fewer = record { rows = g.tasks; count = omega (arith, g.tasks-most) }

  pub handlers-fewer : Fewer hs 0
  handlers-fewer = record { rows = g.handlers; count = omega (arith, g.handlers-most) }

  pub claimed-most : (end l : ℕ) → l ≤ figure_most → called hs l + work end 0 ts l ≤ called_most + called_most
  claimed-most end l h =
      let small-tasks : Small ts l = record { rows = g.tasks; count = g.tasks-most; ticks = omega arith } in
      let small-handlers : Small hs l = record { rows = g.handlers; count = omega (arith, g.handlers-most); ticks = omega arith } in
      omega (arith, called-most ts l small-tasks, called-most hs l small-handlers, work-le-called end 0 ts l)

-- ---- the loop

pub climb-start : (a : ℕ → ℕ) (l : ℕ) → Climbing a l l
climb-start a l = record { onward = omega arith; below = λ b. b }

pub climb-turn : (a : ℕ → ℕ) → ((x y : ℕ) → x ≤ y → a x ≤ a y) → (l r : ℕ) → r < a r → Climbing a l r → Climbing a l (a r)
climb-turn a mono l r more c = record { onward = omega (arith, c.onward); below = λ b. below-climbs a mono r (c.below b) }
