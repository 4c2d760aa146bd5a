-- The law that ties the two orders: they have the same rows, and each is the other's way back.
use mathlib.Core.Bool.{Bool, true, false}
use mathlib.Core.List.{List, [], ◌∷◌}
use mathlib.Core.Path.{◌≡◌, refl, sym, ap, ◌∙◌}
use native.Mathlib.Nat.{mod-lt, mul_comm, div-add-mod'}
use native.Mathlib.Omega.{arith}
use Prim.Native.Nat.{ℕ, zero, suc, ◌+◌, ◌*◌, ◌/◌, ◌%◌, ◌<◌}
use lib.ListN.{length, get_or}
use lib.Seq.{ext_get_or}
use Rattle.demand.specs.Refusals.{uneven}
use Rattle.demand.specs.Rows.{Row, tasks_of, handlers_of, rows_of, width, no_row, row_at}
use Rattle.demand.specs.declared.table.Kind.{Kind}
use Rattle.demand.specs.declared.table.Kind.TheVariants.{Task, Handler}
use Rattle.demand.proofs.Inside.Slices.{rows-count}
use Rattle.columns.specs.Order.{by_column, by_row, count, row_order, column_order, column_row, column_rows, RowsAlike, ThereAndBack}
use Rattle.columns.proofs.Tabled.{tabled-length, tabled-at}
use Rattle.columns.proofs.Order.{wide, row_within, whole, order-length, order-uneven, order-at, order-count, order-keeps-uneven, order-column, order_row}

-- ---- the same rows

-- The row whose numbers stand at place i of a list in row order.
abbrev flat_row : Kind → List ℕ → ℕ → Row
flat_row Task s i = record { cost = get_or s (i * 3) 0; period = get_or s (suc (i * 3)) 0; deadline = get_or s (suc (suc (i * 3))) 0 }
flat_row Handler s i = record { cost = get_or s (i * 2) 0; period = get_or s (suc (i * 2)) 0; deadline = get_or s (suc (i * 2)) 0 }

three : (i : ℕ) → suc i * 3 ≡ suc (suc (suc (i * 3)))
three i = omega arith

two : (i : ℕ) → suc i * 2 ≡ suc (suc (i * 2))
two i = omega arith

row-flat : (kind : Kind) (s : List ℕ) (i : ℕ) → i < length (rows_of kind s) → row_at (rows_of kind s) i ≡ flat_row kind s i
unfolding tasks_of handlers_of
row-flat Task [] i h = absurd (omega arith)
row-flat Task (c ∷ []) i h = absurd (omega arith)
row-flat Task (c ∷ p ∷ []) i h = absurd (omega arith)
row-flat Task (c ∷ p ∷ d ∷ s) zero h = refl
row-flat Task (c ∷ p ∷ d ∷ s) (suc i) h = rw (three i) (row-flat Task s i (omega arith))
row-flat Handler [] i h = absurd (omega arith)
row-flat Handler (c ∷ []) i h = absurd (omega arith)
row-flat Handler (c ∷ p ∷ s) zero h = refl
row-flat Handler (c ∷ p ∷ s) (suc i) h = rw (two i) (row-flat Handler s i (omega arith))

module _ (kind : Kind) (s : List ℕ) (e : uneven kind s ≡ false) (i : ℕ) (row : i < count kind s) where
  -- A number of row i, as the code of a row names its places.
  number_at : (j k m : ℕ) → j < width kind → k ≡ i * width kind + j → m ≡ j * count kind s + i → get_or (row_order kind s) k 0 ≡ get_or s m 0
  number_at j k m h a b =
      ap (λ (x : ℕ). get_or (row_order kind s) x 0) a ∙ order-column kind s e i j row h ∙ ap (λ (x : ℕ). get_or s x 0) (sym b)

row-alike : (kind : Kind) (s : List ℕ) → uneven kind s ≡ false → (i : ℕ) → i < count kind s → flat_row kind (row_order kind s) i ≡ column_row kind s i
row-alike Task s e i row =
    let at = number_at Task s e i row in
    let n = count Task s in
    let c = at 0 (i * 3) i (omega arith) (omega arith) (omega arith) in
    let p = at 1 (suc (i * 3)) (n + i) (omega arith) (omega arith) (omega arith) in
    let d = at 2 (suc (suc (i * 3))) (2 * n + i) (omega arith) (omega arith) (omega arith) in
    λ k. record { cost = c k; period = p k; deadline = d k }
row-alike Handler s e i row =
    let at = number_at Handler s e i row in
    let n = count Handler s in
    let c = at 0 (i * 2) i (omega arith) (omega arith) (omega arith) in
    let p = at 1 (suc (i * 2)) (n + i) (omega arith) (omega arith) (omega arith) in
    λ k. record { cost = c k; period = p k; deadline = p k }

pub rows_alike : RowsAlike
unfolding column_rows
rows_alike kind s e =
    ext_get_or no_row (rows_of kind (row_order kind s)) (column_rows kind s) (many ∙ sym (tabled-length (column_row kind s) 0 (count kind s)))
    (λ i h.
    let row : i < count kind s = omega (arith, many) in
    row-flat kind (row_order kind s) i h ∙ row-alike kind s e i row ∙ sym (tabled-at (column_row kind s) (count kind s) i no_row row))
  where
    many : length (rows_of kind (row_order kind s)) ≡ count kind s
    many = rows-count kind (row_order kind s) ∙ order-count by_column kind s

-- ---- the way back

module _ (kind : Kind) (s : List ℕ) (e : uneven kind s ≡ false) (k : ℕ) (inside : k < length s) where
  abbrev n : ℕ
  n = count kind s

  within-rows : k < n * width kind
  within-rows = omega (arith, whole kind s e, mul_comm (width kind) (count kind s))

  within-columns : k < width kind * n
  within-columns = omega (arith, whole kind s e)

  back_at : get_or (column_order kind (row_order kind s)) k 0 ≡ get_or s k 0
  back_at =
      order-at by_row kind (row_order kind s) (order-keeps-uneven by_column kind s ∙ e) k (omega (arith, order-length by_column kind s))
      ∙ ap (λ (m : ℕ). get_or (row_order kind s) (by_row (width kind) m k) 0) (order-count by_column kind s)
      ∙ order-column kind s e (k % n) (k / n) (mod-lt k (wide n (width kind) k within-rows)) (row_within n (width kind) k within-rows)
      ∙ ap (λ (x : ℕ). get_or s x 0) (div-add-mod' k n)

  there-at : get_or (row_order kind (column_order kind s)) k 0 ≡ get_or s k 0
  there-at =
      order-at by_column kind (column_order kind s) (order-keeps-uneven by_row kind s ∙ e) k (omega (arith, order-length by_row kind s))
      ∙ ap (λ (m : ℕ). get_or (column_order kind s) (by_column (width kind) m k) 0) (order-count by_row kind s)
      ∙ order_row kind s e (k / width kind) (k % width kind) (row_within (width kind) n k within-columns) (mod-lt k (wide (width kind) n k within-columns))
      ∙ ap (λ (x : ℕ). get_or s x 0) (div-add-mod' k (width kind))

pub there_and_back : ThereAndBack
there_and_back = record { back = λ kind s. back kind s (uneven kind s) refl; there = λ kind s. there kind s (uneven kind s) refl }
  where
    back : (kind : Kind) (s : List ℕ) (b : Bool) → uneven kind s ≡ b → column_order kind (row_order kind s) ≡ s
    back kind s true e =
        order-uneven by_row kind (row_order kind s) (order-keeps-uneven by_column kind s ∙ e) ∙ order-uneven by_column kind s e
    back kind s false e =
        let long = order-length by_row kind (row_order kind s) ∙ order-length by_column kind s in
        ext_get_or 0 (column_order kind (row_order kind s)) s long (λ k h. back_at kind s e k (omega (arith, long)))

    there : (kind : Kind) (s : List ℕ) (b : Bool) → uneven kind s ≡ b → row_order kind (column_order kind s) ≡ s
    there kind s true e =
        order-uneven by_column kind (column_order kind s) (order-keeps-uneven by_row kind s ∙ e) ∙ order-uneven by_row kind s e
    there kind s false e =
        let long = order-length by_column kind (column_order kind s) ∙ order-length by_row kind s in
        ext_get_or 0 (row_order kind (column_order kind s)) s long (λ k h. there-at kind s e k (omega (arith, long)))
