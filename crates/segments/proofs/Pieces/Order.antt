-- Who runs in a tick, by segments in time order.
use mathlib.Core.List.{List, [], ◌∷◌}
use mathlib.Core.Logic.{◌⊎◌, inl, inr}
use mathlib.Core.Path.{◌≡◌, refl, ◌∙◌}
use native.Mathlib.Omega.{arith}
use Prim.Native.Nat.{ℕ, zero, suc, ◌-◌, ◌≤◌, ◌<◌}
use Rattle.segments.specs.Given.{Who, nobody}
use Rattle.segments.specs.Segments.{Seg, InOrder, both, at, Agrees}
use Rattle.segments.proofs.Pieces.Counts.{Steady}

both-in : (n m : ℕ) (w v : Who) → 0 < n → 0 < m → both n m w v ≡ w
both-in zero m w v h l = absurd (omega arith)
both-in (suc n) zero w v h l = absurd (omega arith)
both-in (suc n) (suc m) w v h l = refl

both_out : (n m : ℕ) (w v : Who) → (n ≡ 0) ⊎ (m ≡ 0) → both n m w v ≡ v
both_out zero m w v h = refl
both_out (suc n) zero w v h = refl
both_out (suc n) (suc m) w v (inl e) = absurd (omega arith)
both_out (suc n) (suc m) w v (inr e) = absurd (omega arith)

-- In a segment its row runs.
pub at_in : (s : Seg) (ss : List Seg) (t : ℕ) → s.from ≤ t → t < s.to → at (s ∷ ss) t ≡ s.who
unfolding at
at_in s ss t l h = both-in (suc t - s.from) (s.to - t) s.who (at ss t) (omega arith) (omega arith)

-- Behind it the others say who does.
pub at-behind : (s : Seg) (ss : List Seg) (t : ℕ) → s.to ≤ t → at (s ∷ ss) t ≡ at ss t
unfolding at
at-behind s ss t h = both_out (suc t - s.from) (s.to - t) s.who (at ss t) (inr (omega arith))

-- Nobody runs ahead of the first segment,
pub at_ahead : (ss : List Seg) (a t : ℕ) → InOrder a ss → t < a → at ss t ≡ nobody
unfolding at
at_ahead [] a t o l = refl
at_ahead (s ∷ ss) a t o l =
    both_out (suc t - s.from) (s.to - t) s.who (at ss t) (inl (omega (arith, o.0)))
    ∙ at_ahead ss s.to t o.2 (omega (arith, o.0, o.1))

-- or in the gap before it.
pub at_gap : (s : Seg) (ss : List Seg) (a t : ℕ) → InOrder a (s ∷ ss) → t < s.from → at (s ∷ ss) t ≡ nobody
unfolding at
at_gap s ss a t o l =
    both_out (suc t - s.from) (s.to - t) s.who (at ss t) (inl (omega arith)) ∙ at_ahead ss s.to t o.2 (omega (arith, o.1))

-- ---- the pieces of a span, from tick a on

module _ (σ : ℕ → Who) (L : ℕ) where
  -- Nobody runs before the next segment,
  pub gap-steady : (s : Seg) (ss : List Seg) (a : ℕ) → InOrder a (s ∷ ss) → s.from ≤ L → Agrees σ (s ∷ ss) a L
      → Steady σ nobody a s.from
  gap-steady s ss a o e g t l h = g t l (omega arith) ∙ at_gap s ss a t o h

  -- its row runs to its end,
  pub seg-steady : (s : Seg) (ss : List Seg) (a : ℕ) → InOrder a (s ∷ ss) → s.to ≤ L → Agrees σ (s ∷ ss) a L
      → Steady σ s.who s.from s.to
  seg-steady s ss a o e g t l h = g t (omega (arith, o.0)) (omega arith) ∙ at_in s ss t l h

  -- then the others follow,
  pub rest-agrees : (s : Seg) (ss : List Seg) (a : ℕ) → InOrder a (s ∷ ss) → Agrees σ (s ∷ ss) a L → Agrees σ ss s.to L
  rest-agrees s ss a o g t l h = g t (omega (arith, o.0, o.1)) h ∙ at-behind s ss t l

  -- and nobody runs behind the last.
  pub end-steady : (a : ℕ) → Agrees σ [] a L → Steady σ nobody a L
  unfolding at
  end-steady a g t l h = g t l h
