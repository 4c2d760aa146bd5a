-- Segments in time order: one more behind the last.
--   last_to a ss   == where the last of the segments ss ends, a where there is none
use mathlib.Core.List.{List, [], ◌∷◌, ◌++◌}
use mathlib.Core.Logic.{◌⊎◌, inl, inr}
use mathlib.Core.Path.{◌≡◌, refl, ap, ◌∙◌}
use native.Mathlib.Omega.{arith}
use Prim.Native.Nat.{ℕ, zero, suc, ◌-◌, ◌≤◌, ◌<◌}
use Rattle.own_segments.specs.Drawn.{Stops}
use Rattle.segments.specs.Given.{Who, nobody}
use Rattle.segments.specs.Segments.{Seg, InOrder, both, at}

unfoldable pub last_to : ℕ → List Seg → ℕ
last_to a [] = a
last_to a (s ∷ ss) = last_to s.to ss

both-same : (n m : ℕ) (w u v : Who) → u ≡ v → both n m w u ≡ both n m w v
both-same n m w u v e = ap (λ (x : Who). both n m w x) e

both_out : (n m : ℕ) (w v : Who) → (n ≡ 0) ⊎ (m ≡ 0) → both n m w v ≡ v
both_out zero m w v h = refl
both_out (suc n) zero w v h = refl
both_out (suc n) (suc m) w v (inl e) = absurd (omega arith)
both_out (suc n) (suc m) w v (inr e) = absurd (omega arith)

both-in : (n m : ℕ) (w v : Who) → 0 < n → 0 < m → both n m w v ≡ w
both-in zero m w v h l = absurd (omega arith)
both-in (suc n) zero w v h l = absurd (omega arith)
both-in (suc n) (suc m) w v h l = refl

-- The end of the last is not before the start.
pub last-from : (a : ℕ) (ss : List Seg) → InOrder a ss → a ≤ last_to a ss
unfolding last_to
last-from a [] o = omega arith
last-from a (s ∷ ss) o = omega (arith, o.0, o.1, last-from s.to ss o.2)

pub last-append : (a : ℕ) (ss : List Seg) (s : Seg) → last_to a (ss ++ (s ∷ [])) ≡ s.to
unfolding last_to
last-append a [] s = refl
last-append a (x ∷ ss) s = last-append x.to ss s

pub order-append : (a : ℕ) (ss : List Seg) (s : Seg) → InOrder a ss → last_to a ss ≤ s.from → s.from < s.to → InOrder a (ss ++ (s ∷ []))
unfolding last_to
order-append a [] s o l m = (l, m, tt)
order-append a (x ∷ ss) s o l m = (o.0, o.1, order-append x.to ss s o.2 l m)

-- Before the new one nothing changes, ..
pub at_before : (ss : List Seg) (s : Seg) (x : ℕ) → x < s.from → at (ss ++ (s ∷ [])) x ≡ at ss x
unfolding at
at_before [] s x l = both_out (suc x - s.from) (s.to - x) s.who nobody (inl (omega arith))
at_before (y ∷ ss) s x l = both-same (suc x - y.from) (y.to - x) y.who _ _ (at_before ss s x l)

-- .. within it, it runs, ..
pub at-within : (a : ℕ) (ss : List Seg) (s : Seg) (x : ℕ) → InOrder a ss → last_to a ss ≤ s.from → s.from ≤ x → x < s.to
    → at (ss ++ (s ∷ [])) x ≡ s.who
unfolding at last_to
at-within a [] s x o l m k = both-in (suc x - s.from) (s.to - x) s.who nobody (omega arith) (omega arith)
at-within a (y ∷ ss) s x o l m k =
    both_out (suc x - y.from) (y.to - x) y.who (at (ss ++ (s ∷ [])) x) (inr (omega (arith, last-from y.to ss o.2)))
    ∙ at-within y.to ss s x o.2 l m k

-- .. and behind the last nobody does.
pub at-behind : (a : ℕ) (ss : List Seg) (x : ℕ) → InOrder a ss → last_to a ss ≤ x → at ss x ≡ nobody
unfolding at last_to
at-behind a [] x o l = refl
at-behind a (y ∷ ss) x o l =
    both_out (suc x - y.from) (y.to - x) y.who (at ss x) (inr (omega (arith, last-from y.to ss o.2)))
    ∙ at-behind y.to ss x o.2 l

pub stops-append : (σ : ℕ → Who) (L : ℕ) (ss : List Seg) (s : Seg) → Stops σ L ss → (s.to < L → σ s.to ≡ s.who → ⊥)
    → Stops σ L (ss ++ (s ∷ []))
stops-append σ L [] s o e = (e, tt)
stops-append σ L (x ∷ ss) s o e = (o.0, stops-append σ L ss s o.1 e)
