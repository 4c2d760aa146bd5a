-- The rows of a flat list by place: what a part of the list has of them.
use mathlib.Core.List.{List, [], ◌∷◌, ◌++◌}
use mathlib.Core.Path.{◌≡◌, refl, sym, ap, ◌∙◌}
use native.Mathlib.Nat.{add-zero}
use native.Mathlib.Omega.{arith}
use Prim.Native.Nat.{ℕ, zero, suc, ◌+◌, ◌-◌, ◌*◌, ◌≤◌, ◌<◌}
use lib.ListN.{length, get_or, take, drop}
use lib.Seq.{get_or-drop}
use Rattle.demand.specs.Rows.{Row, tasks_of, handlers_of, rows_of, width, row_at, no_row, Each}
use Rattle.demand.specs.declared.table.Kind.{Kind}
use Rattle.demand.specs.declared.table.Kind.TheVariants.{Task, Handler}
use Rattle.demand.proofs.Inside.Slices.{rows-count, from_is}

three : (n : ℕ) → 3 * suc n ≡ suc (suc (suc (3 * n)))
three n = omega arith

two : (n : ℕ) → 2 * suc n ≡ suc (suc (2 * n))
two n = omega arith

-- The first n rows stand in the first numbers, n times the width of a row,
pub rows_take : (kind : Kind) (s : List ℕ) (n : ℕ) → rows_of kind (take (width kind * n) s) ≡ take n (rows_of kind s)
unfolding tasks_of handlers_of
rows_take Task s zero = refl
rows_take Task [] (suc n) = rw (three n)
rows_take Task (c ∷ []) (suc n) = rw (three n)
rows_take Task (c ∷ p ∷ []) (suc n) = rw (three n)
rows_take Task (c ∷ p ∷ d ∷ s) (suc n) = rw (three n) (ap (λ (rs : List Row). record { cost = c; period = p; deadline = d } ∷ rs) (rows_take Task s n))
rows_take Handler s zero = refl
rows_take Handler [] (suc n) = rw (two n)
rows_take Handler (c ∷ []) (suc n) = rw (two n)
rows_take Handler (c ∷ p ∷ s) (suc n) = rw (two n) (ap (λ (rs : List Row). record { cost = c; period = p; deadline = p } ∷ rs) (rows_take Handler s n))

-- and those behind them in the rest.
pub rows_drop : (kind : Kind) (s : List ℕ) (n : ℕ) → rows_of kind (drop (width kind * n) s) ≡ drop n (rows_of kind s)
unfolding tasks_of handlers_of
rows_drop Task s zero = refl
rows_drop Task [] (suc n) = rw (three n)
rows_drop Task (c ∷ []) (suc n) = rw (three n)
rows_drop Task (c ∷ p ∷ []) (suc n) = rw (three n)
rows_drop Task (c ∷ p ∷ d ∷ s) (suc n) = rw (three n) (rows_drop Task s n)
rows_drop Handler s zero = refl
rows_drop Handler [] (suc n) = rw (two n)
rows_drop Handler (c ∷ []) (suc n) = rw (two n)
rows_drop Handler (c ∷ p ∷ s) (suc n) = rw (two n) (rows_drop Handler s n)

-- Whole rows in front stay the rows that they are.
pub rows_append : (kind : Kind) (s z : List ℕ) → length s ≡ width kind * length (rows_of kind s) → rows_of kind (s ++ z) ≡ rows_of kind s ++ rows_of kind z
unfolding tasks_of handlers_of
rows_append Task [] z e = refl
rows_append Task (c ∷ []) z e = absurd (omega arith)
rows_append Task (c ∷ p ∷ []) z e = absurd (omega arith)
rows_append Task (c ∷ p ∷ d ∷ s) z e = ap (λ (rs : List Row). record { cost = c; period = p; deadline = d } ∷ rs) (rows_append Task s z (omega arith))
rows_append Handler [] z e = refl
rows_append Handler (c ∷ []) z e = absurd (omega arith)
rows_append Handler (c ∷ p ∷ s) z e = ap (λ (rs : List Row). record { cost = c; period = p; deadline = p } ∷ rs) (rows_append Handler s z (omega arith))

-- What holds of every row holds of the row at each place.
pub each_at : (P : Row → Type 0) (rs : List Row) → Each P rs → (k : ℕ) → k < length rs → P (row_at rs k)
each_at P [] h k l = absurd (omega arith)
each_at P (r ∷ rs) h zero l = h.0
each_at P (r ∷ rs) h (suc k) l = each_at P rs h.1 k (omega arith)

-- ---- the row at a place

-- The list from row i on has a whole row.
pub row_fits : (kind : Kind) (s : List ℕ) (i : ℕ) → i < length (rows_of kind s) → width kind * i + width kind ≤ length s
row_fits Task s i h = omega (arith, rows-count Task s)
row_fits Handler s i h = omega (arith, rows-count Handler s)

-- The row at the head of the list from row i on is the row at i.
pub row_read : (kind : Kind) (s : List ℕ) (from i : ℕ) (r : Row) (rest : List Row) → from ≡ width kind * i
    → rows_of kind (take (length s - from) (drop from s)) ≡ r ∷ rest → r ≡ row_at (rows_of kind s) i
row_read kind s from i r rest same e =
    let behind : rows_of kind (drop from s) ≡ r ∷ rest = ap (rows_of kind) (sym (from_is from s)) ∙ e in
    let rows : drop i (rows_of kind s) ≡ r ∷ rest = sym (rows_drop kind s i) ∙ ap (λ (n : ℕ). rows_of kind (drop n s)) (sym same) ∙ behind in
    ap (λ (rs : List Row). get_or rs 0 no_row) (sym rows) ∙ get_or-drop i (rows_of kind s) 0 no_row
    ∙ ap (λ (k : ℕ). get_or (rows_of kind s) k no_row) (add-zero i)
