-- The rows of a lent list, read as the code reads them: the numbers of a row at the head, and the list behind them.
use mathlib.Core.Bool.{Bool, false, ◌||◌}
use mathlib.Core.List.{List, [], ◌∷◌}
use mathlib.Core.Path.{◌≡◌, refl, ap, sym, ◌∙◌}
use native.Mathlib.Omega.{arith}
use Prim.Native.Nat.{ℕ, ◌+◌, ◌-◌, ◌/◌, ◌≤◌, ◌<◌}
use lib.ListN.{length, get_or, take, drop, length-drop}
use lib.Seq.{take_all, drop-drop}
use Rattle.demand.specs.Refusals.{FairRow}
use Rattle.demand.specs.Rows.{Row, tasks_of, handlers_of, rows_of, width, total, some, Each, rest}
use Rattle.demand.specs.Inside.Sizes.{Small}
use Rattle.demand.specs.declared.table.Kind.{Kind}
use Rattle.demand.specs.declared.table.Kind.TheVariants.{Task, Handler}
use Rattle.demand.proofs.Between.{Plain}

pub width-least : (kind : Kind) → 2 ≤ width kind
width-least Task = omega arith
width-least Handler = omega arith

pub width-most : (kind : Kind) → width kind ≤ 3
width-most Task = omega arith
width-most Handler = omega arith

-- the row at the head: its last number is the deadline
abbrev pub head : Kind → List ℕ → Row
head kind s = record { cost = get_or s 0 0; period = get_or s 1 0; deadline = get_or s (width kind - 1) 0 }

pub rest-length : (kind : Kind) (s : List ℕ) → length (rest kind s) ≡ length s - width kind
rest-length kind s = rw (take_all (length s - width kind) (drop (width kind) s) (omega (arith, length-drop (width kind) s))) (length-drop (width kind) s)

pub rows_short : (kind : Kind) (s : List ℕ) → length s < width kind → rows_of kind s ≡ []
unfolding tasks_of handlers_of
rows_short Task [] h = refl
rows_short Task (c ∷ []) h = refl
rows_short Task (c ∷ p ∷ []) h = refl
rows_short Task (c ∷ p ∷ d ∷ s) h = absurd (omega arith)
rows_short Handler [] h = refl
rows_short Handler (c ∷ []) h = refl
rows_short Handler (c ∷ p ∷ s) h = absurd (omega arith)

pub rows_head : (kind : Kind) (s : List ℕ) → width kind ≤ length s → rows_of kind s ≡ head kind s ∷ rows_of kind (rest kind s)
unfolding tasks_of handlers_of
rows_head Task [] h = absurd (omega arith)
rows_head Task (c ∷ []) h = absurd (omega arith)
rows_head Task (c ∷ p ∷ []) h = absurd (omega arith)
rows_head Task (c ∷ p ∷ d ∷ s) h =
    ap (λ (z : List ℕ). record { cost = c; period = p; deadline = d } ∷ tasks_of z) (sym (take_all (length (c ∷ p ∷ d ∷ s) - 3) s (omega arith)))
rows_head Handler [] h = absurd (omega arith)
rows_head Handler (c ∷ []) h = absurd (omega arith)
rows_head Handler (c ∷ p ∷ s) h =
    ap (λ (z : List ℕ). record { cost = c; period = p; deadline = p } ∷ handlers_of z) (sym (take_all (length (c ∷ p ∷ s) - 2) s (omega arith)))

pub rows-count : (kind : Kind) (s : List ℕ) → length (rows_of kind s) ≡ length s / width kind
unfolding tasks_of handlers_of
rows-count Task [] = refl
rows-count Task (c ∷ []) = refl
rows-count Task (c ∷ p ∷ []) = refl
rows-count Task (c ∷ p ∷ d ∷ s) = omega (arith, rows-count Task s)
rows-count Handler [] = refl
rows-count Handler (c ∷ []) = refl
rows-count Handler (c ∷ p ∷ s) = omega (arith, rows-count Handler s)

pub handlers-plain : (h : List ℕ) → Plain (handlers_of h)
unfolding handlers_of
handlers-plain [] = tt
handlers-plain (c ∷ []) = tt
handlers-plain (c ∷ p ∷ h) = (refl, handlers-plain h)

-- The list from place i on, as the code lends it; a row further is the rest of it.
abbrev pub from : ℕ → List ℕ → List ℕ
from i s = take (length s - i) (drop i s)

pub from_is : (i : ℕ) (s : List ℕ) → from i s ≡ drop i s
from_is i s = take_all (length s - i) (drop i s) (omega (arith, length-drop i s))

pub from-length : (i : ℕ) (s : List ℕ) → length (from i s) ≡ length s - i
from-length i s = rw from_is (length-drop i s)

pub from_zero : (s : List ℕ) → from 0 s ≡ s
from_zero s = from_is 0 s

pub from-rest : (kind : Kind) (i : ℕ) (s : List ℕ) → rest kind (from i s) ≡ from (i + width kind) s
from-rest kind i s = from_is (width kind) (from i s) ∙ ap (drop (width kind)) (from_is i s) ∙ drop-drop (width kind) i s ∙ sym (from_is (i + width kind) s)

-- The rest, where the width of a row is in hand.
pub from-width : (kind : Kind) (s : List ℕ) (n : ℕ) → n ≡ width kind → from n s ≡ rest kind s
from-width kind s n e = ap (λ (m : ℕ). from m s) e

-- The row at the head, from the numbers read there.
pub head_read : (kind : Kind) (s : List ℕ) (c p d : ℕ) → width kind ≤ length s → c ≡ get_or s 0 0 → p ≡ get_or s 1 0 → d ≡ get_or s (width kind - 1) 0
    → rows_of kind s ≡ record { cost = c; period = p; deadline = d } ∷ rows_of kind (rest kind s)
head_read kind s c p d h ec ep ed = rw (ec, ep, ed) (rows_head kind s h)

-- ---- a function that goes row by row: no row is left

module _ (kind : Kind) (s : List ℕ) (h : length s < width kind) where
  pub total-short : (g : Row → ℕ) → total g (rows_of kind s) ≡ 0
  unfolding total
  total-short g = rw (rows_short kind s h)

  pub some-short : (test : Row → Bool) → some test (rows_of kind s) ≡ false
  unfolding some
  some-short test = rw (rows_short kind s h)

-- ---- and one row and the rest, of which the code has the width n of a row in hand

pub part-shorter : (kind : Kind) (s : List ℕ) (n : ℕ) → n ≡ width kind → n ≤ length s → length (from n s) < length s
part-shorter kind s n w h = omega (arith, from-length n s, width-least kind)

module _ (kind : Kind) (s : List ℕ) (r : Row) (e : rows_of kind s ≡ r ∷ rows_of kind (rest kind s)) where
  pub fair-head : (l : ℕ) → Small (rows_of kind s) l → FairRow r
  fair-head l h = (rw e at h).rows.0

  small-rest : (l : ℕ) → Small (rows_of kind s) l → Small (rows_of kind (rest kind s)) l
  small-rest l h =
      let t : Small (r ∷ rows_of kind (rest kind s)) l = rw e at h in
      record { rows = t.rows.1; count = omega (arith, t.count); ticks = t.ticks }

  module _ (n : ℕ) (w : n ≡ width kind) where
    pub total_head : (g : Row → ℕ) (x : ℕ) → x ≡ total g (rows_of kind (from n s)) → g r + x ≡ total g (rows_of kind s)
    unfolding total
    total_head g x q = rw (e, q, from-width kind s n w)

    pub some-head : (test : Row → Bool) (b : Bool) → b ≡ some test (rows_of kind (from n s)) → (test r || b) ≡ some test (rows_of kind s)
    unfolding some
    some-head test b q = rw (e, q, from-width kind s n w)

    pub each-head : (P : Row → Type 0) → Each P (rows_of kind s) → P r × Each P (rows_of kind (from n s))
    each-head P h = rw (from-width kind s n w) (rw e at h)

    pub small-part : (l : ℕ) → Small (rows_of kind s) l → Small (rows_of kind (from n s)) l
    small-part l h = rw (from-width kind s n w) (small-rest l h)
