-- The facts that end the search (specs/Facts), for a table with each figure in its range.
use mathlib.Core.Bool.{Bool, true, false}
use mathlib.Core.List.{List}
use mathlib.Core.Logic.{◌⊎◌, inl, inr}
use mathlib.Core.Path.{◌≡◌, refl}
use native.Mathlib.Nat.{mul-le-mul_left, mul-sub, le-div_iff_mul-le}
use native.Mathlib.Omega.{arith}
use borrow.Author.Tests.{ltb-true, ltb-false}
use lib.Dec.{ltb}
use Prim.Native.Nat.{ℕ, ◌+◌, ◌-◌, ◌*◌, ◌/◌, ◌≤◌, ◌<◌, min}
use Rattle.demand.specs.Demands.{Passes, Fails}
use Rattle.demand.specs.Refusals.{InRange}
use Rattle.demand.specs.Rows.{Row, Positive}
use Rattle.demand.specs.Tests.{pick}
use Rattle.demand.proofs.Demands.{passes-or-fails}
use Rattle.demand.proofs.Divide.{le-or-lt}
use Rattle.demand.proofs.Inside.Sizes.{fair-positive}
use Rattle.verdict.specs.Inside.Search.{end_by, search_end}
use Rattle.verdict.specs.Facts.{FailsBy, PassesTo, OverfullFails, PeriodEnds, ShortOnly, bound}
use Rattle.verdict.specs.Loads.{whole}
use Rattle.verdict.specs.Multiples.{common}
use Rattle.verdict.specs.Lengths.{AlwaysPasses}
use Rattle.verdict.proofs.Facts.Common.{work-some, light-drains, fails-short, heavy-fails}
use Rattle.verdict.proofs.Divisors.{common-positive, common-tasks, common-handlers}
use Rattle.verdict.proofs.Facts.Drain.{drain-ends}

module _ (ts hs : List Row) (fair : InRange ts hs) where
  tasks-positive : Positive ts
  tasks-positive = fair-positive ts fair.tasks

  handlers-positive : Positive hs
  handlers-positive = fair-positive hs fair.handlers

  positive : 0 < common ts hs
  positive = common-positive ts hs tasks-positive handlers-positive

  -- If W is above H, some L up to H fails: H itself.
  pub overfull-fails : OverfullFails ts hs
  unfolding whole
  overfull-fails heavy = record {
    interval = common ts hs;
    positive = positive;
    within = omega arith;
    fails = heavy-fails ts hs fair.deadlines handlers-positive (common ts hs) positive (common-tasks ts hs) (common-handlers ts hs) heavy
        (work-some (common ts hs) ts positive fair.tasks (common-tasks ts hs) fair.some-task);
  }

  -- If W is at most H and no L up to H fails, none fails at all: H is a drain point.
  pub period-ends : PeriodEnds ts hs
  unfolding whole AlwaysPasses
  period-ends light passes l from =
      drain-ends ts hs (common ts hs) fair.deadlines handlers-positive
      (light-drains ts hs fair.deadlines handlers-positive (common ts hs) positive (common-tasks ts hs) (common-handlers ts hs) light)
      passes l

  -- Every failing L has L times H below L times W and the bound.
  early : (l : ℕ) → Fails ts hs l → l * common ts hs < l * whole ts hs + bound ts hs
  unfolding whole bound
  early = fails-short ts hs fair.deadlines handlers-positive (common ts hs) positive (common-tasks ts hs) (common-handlers ts hs)

  -- If W is below H, every failing L has L times (H - W) below the bound.
  pub short-only : ShortOnly ts hs
  short-only light l fails = omega (arith, early l fails, mul-sub l (common ts hs) (whole ts hs), mul-le-mul_left {m = whole ts hs} {n = common ts hs} l (omega arith))

  -- Where the bound is 0, no length fails: no handler, and every deadline its period.
  pub nothing-fails : whole ts hs ≤ common ts hs → bound ts hs ≡ 0 → AlwaysPasses ts hs
  unfolding AlwaysPasses
  nothing-fails light none l from = go (passes-or-fails ts hs l)
    where
      go : Passes ts hs l ⊎ Fails ts hs l → Passes ts hs l
      go (inl passes) = passes
      go (inr fails) = absurd (omega (arith, early l fails, mul-le-mul_left l light))

-- ---- where the search may end

-- What holds of both ends holds of the one that is taken.
pub end-cases : (C : ℕ → Type 0) (H W B : ℕ) → (H ≤ W → C H) → (W < H → C (min H ((B - 1) / (H - W)))) → C (end_by H W B)
unfolding end_by
end-cases C H W B full short = go (ltb W H) refl
  where
    go : (b : Bool) → ltb W H ≡ b → C (pick b (min H ((B - 1) / (H - W))) H)
    go true e = short (ltb-true W H e)
    go false e = full (ltb-false W H e)

-- The end is not above H.
pub end-most : (H W B : ℕ) → end_by H W B ≤ H
end-most H W B = end-cases (λ n. n ≤ H) H W B (λ _. omega arith) (λ _. omega arith)

pub end-le : (ts hs : List Row) → search_end ts hs ≤ common ts hs
unfolding search_end
end-le ts hs = end-most (common ts hs) (whole ts hs) (bound ts hs)

-- A length up to H that the last fact admits is not above the end.
end-reaches : (H W B l : ℕ) → W < H → l ≤ H → l * (H - W) < B → l ≤ min H ((B - 1) / (H - W))
end-reaches H W B l light short admitted =
    let under : l ≤ (B - 1) / (H - W) = (le-div_iff_mul-le {k = H - W} (omega arith)).1 (omega arith) in
    omega arith

module _ (ts hs : List Row) (fair : InRange ts hs) where
  -- W at least H: where W is above H, the length that fails is not above H.
  full-enough : common ts hs ≤ whole ts hs → PassesTo ts hs (common ts hs) → AlwaysPasses ts hs
  full-enough full passes = go (le-or-lt (whole ts hs) (common ts hs))
    where
      go : (whole ts hs ≤ common ts hs) ⊎ (common ts hs < whole ts hs) → AlwaysPasses ts hs
      go (inl light) = period-ends ts hs fair light passes
      go (inr heavy) =
          let f : FailsBy ts hs (common ts hs) = overfull-fails ts hs fair heavy in
          absurd (omega (arith, passes f.interval f.positive f.within, f.fails))

  -- W below H: the lengths from the end to H pass by the last fact.
  short-enough : whole ts hs < common ts hs → PassesTo ts hs (min (common ts hs) ((bound ts hs - 1) / (common ts hs - whole ts hs))) → AlwaysPasses ts hs
  short-enough light passes = period-ends ts hs fair (omega arith) (λ l from within. go l from within (passes-or-fails ts hs l))
    where
      go : (l : ℕ) → 1 ≤ l → l ≤ common ts hs → Passes ts hs l ⊎ Fails ts hs l → Passes ts hs l
      go l from within (inl here) = here
      go l from within (inr fails) = passes l from (end-reaches (common ts hs) (whole ts hs) (bound ts hs) l light within (short-only ts hs fair light l fails))

  -- No length above the end need be looked at.
  pub end-enough : PassesTo ts hs (search_end ts hs) → AlwaysPasses ts hs
  unfolding search_end
  end-enough = end-cases (λ n. PassesTo ts hs n → AlwaysPasses ts hs) (common ts hs) (whole ts hs) (bound ts hs) full-enough short-enough
