-- Files read by hand: what the reader makes of them, by computation.
use mathlib.Core.List.{[], ◌∷◌, ◌++◌}
use mathlib.Core.Path.{◌≡◌, refl}
use Rattle.demand.specs.declared.table.Kind.TheVariants.{Task, Handler}
use Rattle.schedule_file.specs.File.{entry}
use Rattle.std.specs.Prelude.{Some, None}
use Rattle.schedule_file.specs.Inside.Building.{outcome}
use Rattle.text.specs.Ascii.{ascii, crlf}

-- A header alone says no rows, and so no segments.
header-alone : outcome (ascii "row,from,to") ≡ Some []
header-alone = refl

-- 02's row, and one of a handler, with the last CRLF and without.
two-rows : outcome (ascii "row,from,to" ++ crlf ++ ascii "T1,3,4" ++ crlf ++ ascii "H0,10,9999999999")
    ≡ Some (entry Task 1 3 4 ∷ entry Handler 0 10 9999999999 ∷ [])
two-rows = refl

last-line-end : outcome (ascii "row,from,to" ++ crlf ++ ascii "T1,3,4" ++ crlf) ≡ Some (entry Task 1 3 4 ∷ [])
last-line-end = refl

-- A bare LF, a leading zero, eleven digits, a number that is left out, an unknown letter and an empty file break the layout.
bare-lf : outcome (ascii "row,from,to" ++ (10 ∷ []) ++ ascii "T1,3,4") ≡ None
bare-lf = refl

leading-zero : outcome (ascii "row,from,to" ++ crlf ++ ascii "T1,03,4") ≡ None
leading-zero = refl

eleven-digits : outcome (ascii "row,from,to" ++ crlf ++ ascii "T1,3,10000000000") ≡ None
eleven-digits = refl

left_out : outcome (ascii "row,from,to" ++ crlf ++ ascii "T1,3,") ≡ None
left_out = refl

unknown-letter : outcome (ascii "row,from,to" ++ crlf ++ ascii "t1,3,4") ≡ None
unknown-letter = refl

empty-file : outcome [] ≡ None
empty-file = refl
