-- A list put into row order, row by row and number by number: what the loops keep.
use mathlib.Core.Bool.{false}
use mathlib.Core.List.{List, [], ◌∷◌, ◌++◌}
use mathlib.Core.Path.{◌≡◌, sym, ap, ◌∙◌}
use native.Mathlib.Omega.{arith}
use Prim.Native.Nat.{ℕ, suc, ◌+◌, ◌*◌, ◌/◌, ◌≤◌}
use borrow.Author.Tests.{ltb-false}
use lib.Dec.{ltb}
use lib.ListN.{length, get_or}
use Rattle.demand.specs.Refusals.{uneven}
use Rattle.demand.specs.Rows.{width}
use Rattle.demand.specs.declared.table.Kind.{Kind}
use Rattle.demand.proofs.Refusals.{neither}
use Rattle.columns.specs.Held.{most_numbers, unheld}
use Rattle.columns.specs.Order.{tabled, by_column, count, row_order}
use Rattle.columns.proofs.Order.{whole, order-tabled}
use Rattle.columns.proofs.Tabled.{tabled-next}

-- The list is in whole rows: so many, of so many numbers.
pub record Shape (kind : Kind) (s : List ℕ) (w n : ℕ) : Type 0 where
  pub columns : w ≡ width kind
  pub rows : n ≡ count kind s
  pub numbers : length s ≡ w * n
  pub most : length s ≤ most_numbers kind

pub shape : (kind : Kind) (s : List ℕ) (w : ℕ) → unheld kind s ≡ false → w ≡ width kind → Shape kind s w (length s / w)
shape kind s w e a =
    let fits = neither (ltb (most_numbers kind) (length s)) (uneven kind s) e in
    let rows : length s / w ≡ count kind s = ap (λ (x : ℕ). length s / x) a in
    record {
      columns = a;
      rows = rows;
      numbers = whole kind s fits.1 ∙ sym (ap (λ (x : ℕ). x * count kind s) a) ∙ sym (ap (λ (x : ℕ). w * x) rows);
      most = ltb-false (most_numbers kind) (length s) fits.0;
    }

-- All numbers put, the list is in row order.
pub listed-end : (kind : Kind) (s : List ℕ) (w n : ℕ) → unheld kind s ≡ false → Shape kind s w n
    → tabled (λ k. get_or s (by_column w n k) 0) (length s) ≡ row_order kind s
listed-end kind s w n e is =
    let even = (neither (ltb (most_numbers kind) (length s)) (uneven kind s) e).1 in
    let places : (λ (k : ℕ). get_or s (by_column w n k) 0) ≡ (λ (k : ℕ). get_or s (by_column (width kind) (count kind s) k) 0) =
    λ j. λ (k : ℕ). get_or s (by_column (is.columns j) (is.rows j) k) 0 in
    ap (λ (g : ℕ → ℕ). tabled g (length s)) places ∙ sym (order-tabled by_column kind s even)

-- One number more.
pub listed-turn : (f : ℕ → ℕ) (i x : ℕ) (out : List ℕ) → x ≡ f i → out ≡ tabled f i → out ++ (x ∷ []) ≡ tabled f (i + 1)
listed-turn f i x out e o =
    let next : suc i ≡ i + 1 = omega arith in
    (λ j. o j ++ (e j ∷ [])) ∙ sym (tabled-next f i) ∙ ap (tabled f) next
