-- What the reader keeps on its way. No public promise cites this.
--   guards_held           == the most guards whose rows are kept
--   bare                 == a sheet without guards
--   told_first f         == the first refusal as the page tells it, 0 for none
--   stored ns k i t p    == the numbers ns with the rows of the guard at place k
--   answer_of g           == the answer to the guard g
--   pushed s g           == the sheet s with the guard g more: its rows, or the first refusal, or it is only counted;
--                           pushed_behind f s g where there is room
--   grown s gs           == with the guards gs more, as they are handed to the call
--   sheet_of gs           == the sheet of the guards gs
--   done st values       == the guard whose CR was read last, where st is behind one
--   added st values b    == the guard that the byte b ends, read at st
--   fed s st values b    == s after the byte b, read at st: a guard more where b ends one
--   sheet_at_end           == what s comes to where the file ends at st: the last line may lack its CRLF
--   Reading              == where the reader stands, the numbers of its row, and the guards that it has read whole
--   read_from w bs        == the reading w with the bytes bs more; next with one
--   read_over bs          == the reading over the bytes bs
--   guards_at_end w        == the guards of a file that ends at the reading w, or nothing
--   outcome bs           == the guards of the file bs, or nothing; sheet_for gives the sheet of that
use Rattle.std.specs.Prelude.{List, [], ◌∷◌, ◌++◌, ℕ, ◌+◌, ◌*◌, eqb, ltb, length, set, replicate, Option, Some, None, Result, Ok, Err}
use Rattle.demand.specs.Numbered.{number_of, answered}
use Rattle.demand.specs.declared.refusal.Refusal as demand
use Rattle.demand.specs.declared.refusal.Refusal.TheVariants.{FileMalformed}
use Rattle.demand.specs.Tests.{pick}
use Rattle.guard_file.specs.File.{file_most}
use Rattle.guard_file.specs.Inside.Handed.{handed}
use Rattle.guard_file.specs.Inside.Steps.{fields, after_byte, is_start, noted, guard_of}
use Rattle.guard_file.specs.Page.{Refusal, refusal}
use Rattle.guard_file.specs.declared.reader.Refused.{Refused}
use Rattle.guard_file.specs.declared.reader.Sheet.{Sheet}
use Rattle.guard_file.specs.declared.steps.State.{State}
use Rattle.guard_file.specs.declared.steps.State.TheVariants.{Broken, Head, HeadCr, Start, Name, First, Digits, RowCr}
use Rattle.guards.specs.Guards.{guard_refusal, interrupt_cost, timer_cost, gap_of}
use Rattle.guards.specs.declared.Guard.{Guard}
use Rattle.guards.specs.declared.Pair.{Pair}
use Rattle.text.specs.Ascii.{crlf}

-- ---- the sheet

abbrev pub guards_held : ℕ
guards_held = 8

abbrev pub bare : Sheet
bare = record { count = 0; numbers = replicate 24 0; first = None }

-- the first refusal as the page tells it
abbrev pub told_first : Option Refused → Refusal
told_first None = refusal 0 0
told_first (Some first) = refusal (number_of first.refusal) first.place

abbrev pub stored : List ℕ → ℕ → ℕ → ℕ → ℕ → List ℕ
stored ns k i t p = set (set (set ns (3 * k) i) (3 * k + 1) t) (3 * k + 2) p

abbrev pub answer_of : Guard → Result Pair demand.Refusal
answer_of g = answered (guard_refusal g) (record { interrupt = interrupt_cost g; timer = timer_cost g; period = gap_of g })

abbrev pub counted : Sheet → ℕ → Sheet
counted s n = record { count = n; numbers = s.numbers; first = s.first }

abbrev pub pushed_by : Sheet → Result Pair demand.Refusal → Sheet
pushed_by s (Ok pair) =
    record { count = s.count + 1; numbers = stored s.numbers s.count pair.interrupt pair.timer pair.period; first = s.first }
pushed_by s (Err e) = record { count = s.count + 1; numbers = s.numbers; first = Some (record { refusal = e; place = s.count }) }

-- behind a refused one it is only counted
abbrev pub pushed_behind : Option Refused → Sheet → Guard → Sheet
pushed_behind None s g = pushed_by s (answer_of g)
pushed_behind (Some first) s g = counted s (s.count + 1)

abbrev pub pushed : Sheet → Guard → Sheet
pushed s g = pick (ltb s.count guards_held) (pushed_behind s.first s g) (counted s (guards_held + 1))

abbrev pub grown : Sheet → List Guard → Sheet
grown s [] = s
grown s (g ∷ gs) = grown (pushed s (handed g)) gs

abbrev pub sheet_of : List Guard → Sheet
sheet_of gs = grown bare gs

-- ---- a row's end

abbrev pub done : State → List ℕ → List Guard
done (RowCr kind) values = guard_of kind values ∷ []
done Broken values = []
done (Head k) values = []
done HeadCr values = []
done Start values = []
done (Name kind k) values = []
done (First kind j) values = []
done (Digits kind j v) values = []

abbrev pub added : State → List ℕ → ℕ → List Guard
added st values b = pick (eqb b 10) (done st values) []

abbrev pub fed : Sheet → State → List ℕ → ℕ → Sheet
fed s st values b = grown s (added st values b)

abbrev pub sheet_at_end : Sheet → State → List ℕ → Result Sheet demand.Refusal
sheet_at_end s st values =
    pick (is_start (after_byte (after_byte st 13) 10)) (Ok (fed s (after_byte st 13) (noted (after_byte st 13) values) 10))
    (pick (is_start st) (Ok s) (Err FileMalformed))

-- ---- the whole file

pub record Reading : Type 0 where
  pub st : State
  pub values : List ℕ
  pub guards : List Guard

abbrev pub next : Reading → ℕ → Reading
next w b =
    record { st = after_byte w.st b; values = noted (after_byte w.st b) w.values; guards = w.guards ++ added w.st w.values b }

abbrev pub read_from : Reading → List ℕ → Reading
read_from w [] = w
read_from w (b ∷ bs) = read_from (next w b) bs

abbrev pub unread : Reading
unread = record { st = Head 0; values = replicate fields 0; guards = [] }

abbrev pub read_over : List ℕ → Reading
read_over bs = read_from unread bs

abbrev pub guards_at_end : Reading → Option (List Guard)
guards_at_end w =
    pick (is_start (read_from w crlf).st) (Some (read_from w crlf).guards) (pick (is_start w.st) (Some w.guards) None)

abbrev pub outcome : List ℕ → Option (List Guard)
outcome bs = pick (ltb file_most (length bs)) None (guards_at_end (read_over bs))

abbrev pub sheet_for : Option (List Guard) → Result Sheet demand.Refusal
sheet_for None = Err FileMalformed
sheet_for (Some gs) = Ok (sheet_of gs)
