-- The shortest length that fails (specs/Lengths, specs/Promise): a deadline of a task, and only one.
use mathlib.Core.List.{List, [], ◌∷◌}
use mathlib.Core.Logic.{◌⊎◌, inl, inr}
use mathlib.Core.Path.{◌≡◌, subst, sym}
use native.Mathlib.Nat.{eq-zero-or-pos, dvd-mul_left, mod-eq-zero_of_dvd, div-add-mod'}
use native.Mathlib.Numerals.{add-one}
use native.Mathlib.Omega.{arith}
use Prim.Native.Nat.{ℕ, zero, suc, ◌+◌, ◌-◌, ◌*◌, ◌/◌, ◌%◌, ◌≤◌, ◌<◌, ◌∣◌}
use Rattle.demand.specs.Demands.{Passes}
use Rattle.demand.specs.Rows.{Row, Each, Valid}
use Rattle.demand.proofs.Between.{due-next, passes-flat}
use Rattle.demand.proofs.Demands.{passes-zero}
use Rattle.demand.proofs.Divide.{le-or-lt}
use Rattle.verdict.specs.Lengths.{TestLength, AlwaysPasses, LeastFailing, LeastIsTest}

-- l is a deadline of no row
abbrev pub NoDeadline : List Row → ℕ → Type 0
NoDeadline ts l = Each (λ r. (n : ℕ) → l ≡ r.deadline + n * r.period → ⊥) ts

deadline-or-not : (d p l : ℕ) → ((n : ℕ) × (l ≡ d + n * p)) ⊎ ((n : ℕ) → l ≡ d + n * p → ⊥)
deadline-or-not d p l = go (le-or-lt d l) (eq-zero-or-pos ((l - d) % p))
  where
    go : (d ≤ l) ⊎ (l < d) → ((l - d) % p ≡ 0) ⊎ (0 < (l - d) % p) → ((n : ℕ) × (l ≡ d + n * p)) ⊎ ((n : ℕ) → l ≡ d + n * p → ⊥)
    go (inr early) rest = inr (λ n e. omega arith)
    go (inl h) (inl e) = inl ((l - d) / p, omega (arith, div-add-mod' (l - d) p))
    go (inl h) (inr more) = inr none
      where
        none : (n : ℕ) → l ≡ d + n * p → ⊥
        none n e =
            let whole : l - d ≡ n * p = omega arith in
            omega (arith, mod-eq-zero_of_dvd p (subst (λ (x : ℕ). p ∣ x) (sym whole) (dvd-mul_left p n)))

-- A length is a deadline of some task, or of none.
pub test-or-none : (ts : List Row) (l : ℕ) → TestLength ts l ⊎ NoDeadline ts l
test-or-none [] l = inr tt
test-or-none (r ∷ ts) l = go (deadline-or-not r.deadline r.period l) (test-or-none ts l)
  where
    go : ((n : ℕ) × (l ≡ r.deadline + n * r.period)) ⊎ ((n : ℕ) → l ≡ r.deadline + n * r.period → ⊥) → TestLength ts l ⊎ NoDeadline ts l → TestLength (r ∷ ts) l ⊎ NoDeadline (r ∷ ts) l
    go (inl here) rest = inl (inl here)
    go (inr none) (inl there) = inl (inr there)
    go (inr none) (inr rest) = inr (none, rest)

-- Where no task's deadline falls, what passed a tick before still passes.
pub passes-between : (ts hs : List Row) (l : ℕ) → Valid ts → NoDeadline ts (suc l) → Passes ts hs l → Passes ts hs (suc l)
passes-between ts hs l valid none passes =
    let flat : Passes ts hs (l + 1) = passes-flat ts hs l 1 (rw (add-one l) (due-next ts l valid none)) passes in
    rw (add-one l) at flat

-- The tick before the shortest length that fails.
pub passes-below : (ts hs : List Row) (l : ℕ) → Valid ts → LeastFailing ts hs (suc l) → Passes ts hs l
passes-below ts hs zero valid f = passes-zero ts hs valid
passes-below ts hs (suc l) valid f = f.least (suc l) (omega arith) (omega arith)

-- Only a deadline can be the least failing length.
pub least-is-test : LeastIsTest
least-is-test ts hs zero valid f = absurd (omega (arith, f.positive))
least-is-test ts hs (suc l) valid f = go (test-or-none ts (suc l))
  where
    go : TestLength ts (suc l) ⊎ NoDeadline ts (suc l) → TestLength ts (suc l)
    go (inl test) = test
    go (inr none) = absurd (omega (arith, f.fails, passes-between ts hs l valid none (passes-below ts hs l valid f)))

least-le : (ts hs : List Row) (l m : ℕ) → LeastFailing ts hs l → LeastFailing ts hs m → l ≤ m
least-le ts hs l m f g = go (le-or-lt l m)
  where
    go : (l ≤ m) ⊎ (m < l) → l ≤ m
    go (inl h) = h
    go (inr h) = absurd (omega (arith, f.least m g.positive h, g.fails))

-- There is only one.
pub least-unique : (ts hs : List Row) (l m : ℕ) → LeastFailing ts hs l → LeastFailing ts hs m → l ≡ m
least-unique ts hs l m f g = omega (arith, least-le ts hs l m f g, least-le ts hs m l g f)

-- And none where every length passes.
pub fits-never-fails : (ts hs : List Row) (l : ℕ) → AlwaysPasses ts hs → LeastFailing ts hs l → ⊥
unfolding AlwaysPasses
fits-never-fails ts hs l passes f = omega (arith, passes l f.positive, f.fails)
