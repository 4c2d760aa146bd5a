-- Between two deadlines D stays, so no length is the first to fail there.
--   Plain hs         each deadline is its period, as handlers have it
use mathlib.Core.List.{List}
use mathlib.Core.Path.{◌≡◌, ap, sym, ◌∙◌}
use native.Mathlib.Omega.{arith}
use Prim.Native.Nat.{ℕ, suc, ◌+◌, ◌*◌}
use Rattle.demand.specs.Demands.{within, due_by, due, Passes}
use Rattle.demand.specs.Rows.{Row, Each, Positive, Sound, Valid}
use Rattle.demand.proofs.Demands.{handled-gain}
use Rattle.demand.proofs.Divide.{jobs, within-jobs, jobs-next}
use Rattle.demand.proofs.Sums.{each_both, total-same}

abbrev pub Plain : List Row → Type 0
Plain hs = Each (λ r. r.deadline ≡ r.period) hs

pub plain-valid : (hs : List Row) → Plain hs → Positive hs → Valid hs
plain-valid hs plain pos = each_both (λ r e p. record { some = omega arith; fits = omega arith }) hs plain pos

counted : (l : ℕ) (r : Row) → Sound r → within l r.deadline r.period ≡ jobs l r.deadline r.period
counted l r s = within-jobs l r.deadline r.period (omega (arith, s)) s.fits

-- A tick that is no task's deadline adds nothing to D.
pub due-next : (ts : List Row) (l : ℕ) → Valid ts → Each (λ r. (n : ℕ) → suc l ≡ r.deadline + n * r.period → ⊥) ts → due ts (suc l) ≡ due ts l
unfolding due
due-next ts l valid none = total-same (due_by (suc l)) (due_by l) ts (each_both row ts valid none)
  where
    row : (r : Row) → Sound r → ((n : ℕ) → suc l ≡ r.deadline + n * r.period → ⊥) → due_by (suc l) r ≡ due_by l r
    row r s f = ap (λ (n : ℕ). r.cost * n) (counted (suc l) r s ∙ jobs-next l r.deadline r.period (omega (arith, s)) s.fits f ∙ sym (counted l r s))

-- Where no more falls due, what passed still passes: a search may visit only the lengths at which some deadline falls.
pub passes-flat : (ts hs : List Row) (l j : ℕ) → due ts (l + j) ≡ due ts l → Passes ts hs l → Passes ts hs (l + j)
passes-flat ts hs l j e h = omega (arith, handled-gain hs l j)
