-- The search by halves: what it keeps, from its start to its end (theory: a lower cost keeps a yes).
use mathlib.Core.Bool.{Bool, true, false}
use mathlib.Core.List.{List}
use mathlib.Core.Logic.{◌⊎◌, inl, inr}
use mathlib.Core.Path.{◌≡◌, refl, subst}
use native.Mathlib.Numerals.{add-one}
use native.Mathlib.Omega.{arith}
use Prim.Native.Nat.{ℕ, zero, suc, ◌+◌, ◌-◌, ◌/◌, ◌≤◌, ◌<◌}
use Rattle.demand.proofs.Divide.{le-or-lt}
use Rattle.trim.specs.Costs.{with_cost}
use Rattle.trim.specs.Inside.{Judged, CanSearch, turns_most, halved, Between, FoundSays}
use Rattle.trim.specs.Promise.{Gets}
use Rattle.trim.specs.declared.search.Found.{Found}
use Rattle.trim.proofs.Lowered.{told-fits, told-misses}
use Rattle.verdict.specs.Promise.Word.{fits, misses}

-- Twenty halvings leave nothing of 999,999.
halved-late : (n : ℕ) → turns_most ≤ n → halved n ≡ 0
unfolding halved
halved-late zero late = absurd (omega arith)
halved-late (suc n) late = go (le-or-lt turns_most n) (halved-late n)
  where
    go : (turns_most ≤ n) ⊎ (n < turns_most) → (turns_most ≤ n → halved n ≡ 0) → halved n / 2 ≡ 0
    go (inl l) before = omega (arith, before l)
    go (inr l) before = let last : n ≡ 19 = omega arith in rw last refl

-- So where a cost lies between there is a turn left.
halved-some : (n : ℕ) → 1 ≤ halved n → n < turns_most
halved-some n some = go (le-or-lt turns_most n)
  where
    go : (turns_most ≤ n) ⊎ (n < turns_most) → n < turns_most
    go (inl late) = absurd (omega (arith, halved-late n late))
    go (inr l) = l

halved-next : (n : ℕ) → halved (n + 1) ≡ halved n / 2
unfolding halved
halved-next n = rw (add-one n) refl

pub search-start : (t h : List ℕ) (i m : ℕ) → CanSearch t h i m → Between t h i m 1 m 0
unfolding halved
search-start t h i m can = record {
  least = omega arith;
  order = can.some;
  most = omega arith;
  fits = can.low;
  misses = can.high;
  gap = omega (arith, can.most);
  turns = omega arith;
}

module _ (t h : List ℕ) (i m low high n : ℕ) (was : Between t h i m low high n) where
  -- Not yet neighbours: one turn is left, and the middle lies between.
  pub turn-left : low + 1 < high → n < turns_most
  turn-left apart = halved-some n (omega (arith, was.gap))

  module _ (apart : low + 1 < high) where
    abbrev middle : ℕ
    middle = low + (high - low) / 2

    -- The middle fits,
    search-up : Gets (with_cost t i middle) h fits → Between t h i m middle high (n + 1)
    search-up gets = record {
      least = omega (arith, was.least);
      order = omega arith;
      most = was.most;
      fits = gets;
      misses = was.misses;
      gap = omega (arith, was.gap, halved-next n);
      turns = omega (arith, turn-left apart);
    }

    -- or it misses.
    search-down : Gets (with_cost t i middle) h misses → Between t h i m low middle (n + 1)
    search-down gets = record {
      least = was.least;
      order = omega arith;
      most = omega (arith, was.most);
      fits = was.fits;
      misses = gets;
      gap = omega (arith, was.gap, halved-next n);
      turns = omega (arith, turn-left apart);
    }

    -- Either way, as the code tells them apart.
    pub turn_up : (b : Bool) (l u : ℕ) → Judged (with_cost t i middle) h b → b ≡ true → l ≡ middle → u ≡ high → Between t h i m l u (n + 1)
    turn_up b l u told e el eu = rw (el, eu) (search-up (told-fits told e))

    pub turn-down : (b : Bool) (l u : ℕ) → Judged (with_cost t i middle) h b → b ≡ false → l ≡ low → u ≡ middle → Between t h i m l u (n + 1)
    turn-down b l u told e el eu = rw (el, eu) (search-down (told-misses told e))

  -- Neighbours: the greatest cost is found.
  pub search-end : (r : Found) → r.cost ≡ low → r.turns ≡ n → high ≤ low + 1 → FoundSays t h i m r
  search-end r cost turns met =
      let next : high ≡ low + 1 = omega (arith, was.order) in
      record {
        least = omega (arith, was.least);
        less = omega (arith, was.order, was.most);
        low = rw cost was.fits;
        next = rw cost (subst (λ (c : ℕ). Gets (with_cost t i c) h misses) next was.misses);
        turns = omega (arith, was.turns);
      }
