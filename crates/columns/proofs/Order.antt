-- The two orders of a list are of the same rows, and each is the other's way back.
use mathlib.Core.Bool.{Bool, true, false}
use mathlib.Core.List.{List}
use mathlib.Core.Path.{◌≡◌, refl, ap, ◌∙◌}
use native.Mathlib.Nat.{mod-lt, div-lt_iff_lt-mul, mul_comm}
use native.Mathlib.Omega.{arith}
use borrow.Author.Tests.{ltb-false}
use Prim.Native.Nat.{ℕ, zero, suc, ◌+◌, ◌*◌, ◌/◌, ◌%◌, ◌≤◌, ◌<◌}
use lib.Dec.{ltb}
use lib.Arith.{digits_lt, digits_div, digits_mod}
use lib.ListN.{length, get_or}
use Rattle.demand.specs.Refusals.{uneven}
use Rattle.demand.specs.Rows.{width}
use Rattle.demand.specs.Tests.{pick}
use Rattle.demand.specs.declared.table.Kind.{Kind}
use Rattle.demand.specs.declared.table.Kind.TheVariants.{Task, Handler}
use Rattle.columns.specs.Order.{tabled, by_column, by_row, count, reordered, row_order, column_order}
use Rattle.columns.proofs.Tabled.{tabled-length, tabled-at}

-- ---- places

module _ (w n i : ℕ) (inside : i < w * n) where
  pub wide : 0 < w
  wide = go w inside
    where
      go : (v : ℕ) → i < v * n → 0 < v
      go zero h = absurd (omega arith)
      go (suc v) h = omega arith

  -- The row of a number is one of the rows,
  pub row_within : i / w < n
  row_within = (div-lt_iff_lt-mul wide).1 (omega (arith, mul_comm n w))

  -- and by column the number stands within the list.
  pub place-within : by_column w n i < w * n
  place-within = digits_lt (mod-lt i wide) row_within

-- By column, number j of row i stands among the j-th numbers of all rows.
pub placed : (w n i j : ℕ) → j < w → by_column w n (i * w + j) ≡ j * n + i
placed w n i j column = rw (digits_mod i column, digits_div i column)

-- ---- a reordered list, place by place

-- A list in whole rows has so many numbers.
pub whole : (kind : Kind) (s : List ℕ) → uneven kind s ≡ false → length s ≡ width kind * count kind s
whole Task s e = let none : length s % 3 ≤ 0 = ltb-false 0 (length s % 3) e in omega arith
whole Handler s e = let none : length s % 2 ≤ 0 = ltb-false 0 (length s % 2) e in omega arith

module _ (place : ℕ → ℕ → ℕ → ℕ) (kind : Kind) (s : List ℕ) where
  pub order-length : length (reordered place kind s) ≡ length s
  unfolding reordered
  order-length = go (uneven kind s)
    where
      go : (b : Bool) → length (pick b s (tabled (λ i. get_or s (place (width kind) (count kind s) i) 0) (length s))) ≡ length s
      go true = refl
      go false = tabled-length (λ i. get_or s (place (width kind) (count kind s) i) 0) 0 (length s)

  pub order-uneven : uneven kind s ≡ true → reordered place kind s ≡ s
  unfolding reordered
  order-uneven e = rw e

  pub order-tabled : uneven kind s ≡ false → reordered place kind s ≡ tabled (λ i. get_or s (place (width kind) (count kind s) i) 0) (length s)
  unfolding reordered
  order-tabled e = rw e

  pub order-at : uneven kind s ≡ false → (i : ℕ) → i < length s → get_or (reordered place kind s) i 0 ≡ get_or s (place (width kind) (count kind s) i) 0
  order-at e i h =
      ap (λ (xs : List ℕ). get_or xs i 0) (order-tabled e)
      ∙ tabled-at (λ i. get_or s (place (width kind) (count kind s) i) 0) (length s) i 0 h

  -- It has as many numbers, so as many rows, and is in whole rows where the other is.
  pub order-count : count kind (reordered place kind s) ≡ count kind s
  order-count = ap (λ (n : ℕ). n / width kind) order-length

  pub order-keeps-uneven : uneven kind (reordered place kind s) ≡ uneven kind s
  order-keeps-uneven = ap (λ (n : ℕ). ltb 0 (n % width kind)) order-length

module _ (kind : Kind) (s : List ℕ) (e : uneven kind s ≡ false) (i j : ℕ) (row : i < count kind s) (column : j < width kind) where
  -- Number j of row i, in row order: by column it stands among the j-th figures of all rows.
  pub order-column : get_or (row_order kind s) (i * width kind + j) 0 ≡ get_or s (j * count kind s + i) 0
  order-column =
      order-at by_column kind s e (i * width kind + j) (omega (arith, whole kind s e, mul_comm (width kind) (count kind s), digits_lt row column))
      ∙ ap (λ (k : ℕ). get_or s k 0) (placed (width kind) (count kind s) i j column)

  -- And the other way.
  pub order_row : get_or (column_order kind s) (j * count kind s + i) 0 ≡ get_or s (i * width kind + j) 0
  order_row =
      order-at by_row kind s e (j * count kind s + i) (omega (arith, whole kind s e, digits_lt column row)) ∙ ap (λ (k : ℕ). get_or s k 0) place
    where
      place : by_row (width kind) (count kind s) (j * count kind s + i) ≡ i * width kind + j
      place = rw (digits_mod j row, digits_div j row)
