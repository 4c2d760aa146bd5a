-- The two orders of a list (02, M-111): by column, all costs, then all periods, then all deadlines; by row, as 01 lends it.
--   tabled f n              == f 0, f 1, .. f (n - 1)
--   by_column w n i          == where number i of the row order stands by column, in n rows of w numbers: it is number i % w of row i / w
--   by_row w n j             == where number j of the column order stands by row: it is of row j % n, its number j / n
--   reordered place kind s  == the list s with its numbers fetched from those places; as it is where its count does not divide into rows
--   row_order kind s         == the list s, held by column, in row order
--   column_order kind s      == the list s, in row order, held by column
--   first_rows w n s i      == the first i rows of the list s, held by column in n rows of w numbers, in row order
--   column_row kind s i      == row i of the list s held by column: cost i, period i and, of a task, deadline i
--   column_rows kind s       == all of them
--   RowsAlike               the rows by column of a list are the rows of its row order
--   ThereAndBack            either order of the other is the list itself
use Rattle.std.specs.Prelude.{List, [], ◌∷◌, ◌≡◌, false, ℕ, zero, suc, ◌+◌, ◌*◌, ◌/◌, ◌%◌, length, get_or}
use Rattle.demand.specs.Refusals.{uneven}
use Rattle.demand.specs.Rows.{Row, rows_of, width}
use Rattle.demand.specs.Tests.{pick}
use Rattle.demand.specs.declared.table.Kind.{Kind}
use Rattle.demand.specs.declared.table.Kind.TheVariants.{Task, Handler}

unfoldable pub tabled_from {ℓ} : {A : Type ℓ} → ℕ → (ℕ → A) → ℕ → List A
tabled_from j f zero = []
tabled_from j f (suc n) = f j ∷ tabled_from (suc j) f n

abbrev pub tabled {ℓ} : {A : Type ℓ} → (ℕ → A) → ℕ → List A
tabled f n = tabled_from 0 f n

-- ---- where a number stands

abbrev pub by_column : ℕ → ℕ → ℕ → ℕ
by_column w n i = (i % w) * n + i / w

abbrev pub by_row : ℕ → ℕ → ℕ → ℕ
by_row w n j = (j % n) * w + j / n

-- ---- a list in the other order

abbrev pub count : Kind → List ℕ → ℕ
count kind s = length s / width kind

unfoldable pub reordered : (ℕ → ℕ → ℕ → ℕ) → Kind → List ℕ → List ℕ
reordered place kind s = pick (uneven kind s) s (tabled (λ i. get_or s (place (width kind) (count kind s) i) 0) (length s))

abbrev pub row_order : Kind → List ℕ → List ℕ
row_order kind s = reordered by_column kind s

abbrev pub column_order : Kind → List ℕ → List ℕ
column_order kind s = reordered by_row kind s

abbrev pub first_rows : ℕ → ℕ → List ℕ → ℕ → List ℕ
first_rows w n s i = tabled (λ k. get_or s (by_column w n k) 0) (i * w)

-- ---- its rows

abbrev pub column_row : Kind → List ℕ → ℕ → Row
column_row Task s i =
    let n = count Task s in
    record { cost = get_or s i 0; period = get_or s (n + i) 0; deadline = get_or s (2 * n + i) 0 }
column_row Handler s i =
    let n = count Handler s in
    record { cost = get_or s i 0; period = get_or s (n + i) 0; deadline = get_or s (n + i) 0 }

unfoldable pub column_rows : Kind → List ℕ → List Row
column_rows kind s = tabled (column_row kind s) (count kind s)

abbrev pub RowsAlike : Type 0
RowsAlike = (kind : Kind) (s : List ℕ) → uneven kind s ≡ false → rows_of kind (row_order kind s) ≡ column_rows kind s

pub record ThereAndBack : Type 0 where
  pub back : (kind : Kind) (s : List ℕ) → column_order kind (row_order kind s) ≡ s
  pub there : (kind : Kind) (s : List ℕ) → row_order kind (column_order kind s) ≡ s
