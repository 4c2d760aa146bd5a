-- Laws of the least common multiple of rows' periods (specs/Multiples), and how the code builds it: row by row, up to the limit.
use mathlib.Core.Bool.{Bool, true, false}
use mathlib.Core.List.{List, [], ◌∷◌}
use mathlib.Core.Path.{◌≡◌, refl, ap, ◌∙◌}
use native.Mathlib.Nat.{dvd_refl, dvd_trans, le_of_dvd, mul-le-mul, div-le_self, le_trans}
use native.Mathlib.Omega.{arith}
use borrow.Author.Tests.{lt-ltb, le-ltb, ltb-true, ltb-false}
use lib.Dec.{ltb}
use lib.ListN.{length}
use Prim.Native.Nat.{ℕ, ◌*◌, ◌/◌, ◌≤◌, ◌<◌, ◌∣◌}
use Rattle.std.specs.Prelude.{Option, None, Some, unwrap_or}
use Rattle.euclid.specs.Euclid.{gcd, lcm}
use Rattle.euclid.proofs.Divisors.{lcm-left, lcm-right, lcm-least, lcm-positive}
use Rattle.demand.specs.Inside.Sizes.{row_most}
use Rattle.demand.specs.Limits.{figure_most, ticks_most}
use Rattle.demand.specs.Multiples.{lcm_from, limited, Divided}
use Rattle.demand.specs.Refusals.{FairRow}
use Rattle.demand.specs.Rows.{Row, rows_of, width, Each, Positive, rest}
use Rattle.demand.specs.Tests.{pick}
use Rattle.demand.specs.declared.table.Kind.{Kind}
use Rattle.demand.proofs.Inside.Sizes.{fair-positive}
use Rattle.demand.proofs.Inside.Slices.{rows_short, from, from-width, each-head}

-- ---- row by row

pub lcm-from-nil : (a : ℕ) → lcm_from a [] ≡ a
unfolding lcm_from
lcm-from-nil a = refl

pub lcm-from-cons : (a : ℕ) (r : Row) (rs : List Row) → lcm_from a (r ∷ rs) ≡ lcm_from (lcm a r.period) rs
unfolding lcm_from
lcm-from-cons a r rs = refl

pub lcm-from-positive : (a : ℕ) (rs : List Row) → 0 < a → Positive rs → 0 < lcm_from a rs
unfolding lcm_from
lcm-from-positive a [] pos all = pos
lcm-from-positive a (r ∷ rs) pos all = lcm-from-positive (lcm a r.period) rs (lcm-positive a r.period pos all.0) all.1

pub lcm-from-start : (a : ℕ) (rs : List Row) → a ∣ lcm_from a rs
unfolding lcm_from
lcm-from-start a [] = dvd_refl a
lcm-from-start a (r ∷ rs) = dvd_trans a (lcm-left a r.period) (lcm-from-start (lcm a r.period) rs)

pub lcm-from-rows : (a : ℕ) (rs : List Row) → Divided (lcm_from a rs) rs
unfolding lcm_from
lcm-from-rows a [] = tt
lcm-from-rows a (r ∷ rs) = (dvd_trans r.period (lcm-right a r.period) (lcm-from-start (lcm a r.period) rs), lcm-from-rows (lcm a r.period) rs)

pub lcm-from-least : (a n : ℕ) (rs : List Row) → 0 < a → Positive rs → a ∣ n → Divided n rs → lcm_from a rs ∣ n
unfolding lcm_from
lcm-from-least a n [] pos all p d = p
lcm-from-least a n (r ∷ rs) pos all p d =
    lcm-from-least (lcm a r.period) n rs (lcm-positive a r.period pos all.0) all.1 (lcm-least a r.period n pos p d.0) d.1

-- A partial multiple above the limit: so is the whole.
pub lcm-from-le : (a : ℕ) (rs : List Row) → 0 < a → Positive rs → a ≤ lcm_from a rs
lcm-from-le a rs pos all = le_of_dvd (lcm-from-positive a rs pos all) (lcm-from-start a rs)

-- ---- as the code builds it

module _ (kind : Kind) (s : List ℕ) (h : length s < width kind) where
  pub lcm-short : (a : ℕ) → a ≤ ticks_most → Some a ≡ limited (lcm_from a (rows_of kind s))
  lcm-short a most = rw (rows_short kind s h, lcm-from-nil a, le-ltb ticks_most a most)

module _ (kind : Kind) (s : List ℕ) (r : Row) (e : rows_of kind s ≡ r ∷ rows_of kind (rest kind s)) where
  -- A partial multiple above the limit: the whole is too.
  pub lcm-over : (a : ℕ) → 0 < a → Each FairRow (rows_of kind s) → ticks_most < lcm a r.period → None ≡ limited (lcm_from a (rows_of kind s))
  lcm-over a pos fair over =
      let f = each-head kind s r e (width kind) refl FairRow fair in
      let whole : lcm a r.period ≤ lcm_from (lcm a r.period) (rows_of kind (rest kind s)) =
      lcm-from-le (lcm a r.period) (rows_of kind (rest kind s)) (lcm-positive a r.period pos f.0.period.least) (fair-positive (rows_of kind (rest kind s)) f.1) in
      rw (e, lcm-from-cons a r (rows_of kind (rest kind s)), lt-ltb ticks_most (lcm_from (lcm a r.period) (rows_of kind (rest kind s))) (omega arith))

  -- Else it is that of the multiple so far and the rest, of which the code has the width n of a row in hand.
  pub lcm-head : (n : ℕ) → n ≡ width kind → (a b : ℕ) (x : Option ℕ) → b ≡ lcm a r.period → x ≡ limited (lcm_from b (rows_of kind (from n s)))
      → x ≡ limited (lcm_from a (rows_of kind s))
  lcm-head n w a b x eb q = q ∙ rw (e, lcm-from-cons a r (rows_of kind (rest kind s)), eb, from-width kind s n w)

-- The partial multiple, as the code makes it: by the divisor in hand. It fits a word.
pub lcm-read : (a g p : ℕ) → g ≡ gcd a p → a / g * p ≡ lcm a p
unfolding lcm
lcm-read a g p e = rw e

pub lcm-fits : (a g p : ℕ) → a ≤ ticks_most → p ≤ figure_most → a / g * p ≤ row_most
lcm-fits a g p ha hp = mul-le-mul (le_trans (div-le_self a g) ha) hp

-- What a limited multiple says.
pub limited-none : (m : ℕ) → None ≡ limited m → ticks_most < m
limited-none m e = go (ltb ticks_most m) refl e
  where
    go : (b : Bool) → ltb ticks_most m ≡ b → None ≡ pick b None (Some m) → ticks_most < m
    go true t q = ltb-true ticks_most m t
    go false t q = absurd cc

pub limited-some : (m r : ℕ) → Some r ≡ limited m → (r ≡ m) × (m ≤ ticks_most)
limited-some m r e = go (ltb ticks_most m) refl e
  where
    go : (b : Bool) → ltb ticks_most m ≡ b → Some r ≡ pick b None (Some m) → (r ≡ m) × (m ≤ ticks_most)
    go true t q = absurd cc
    go false t q = (ap (λ o. unwrap_or o 0) q, ltb-false ticks_most m t)
