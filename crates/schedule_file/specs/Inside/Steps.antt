-- The reader's own steps from byte to byte. No public promise cites them.
--   up_to place      == the text of a row as far as this number: its letter, the numbers before it, and a comma
--   behind place    == the byte that ends this number: the CR of its row's end, or a comma before the next field
--   after place v   == where that byte takes a reader that has read v
--   after_byte st b  == where the byte b takes a reader that stands at st
--   is_start st      == st is the start of a row's line
use Rattle.std.specs.Prelude.{Bool, true, false, List, [], ◌∷◌, ◌++◌, ℕ, ◌+◌, ◌-◌, ◌*◌, ◌^◌, eqb, ltb, length, get_or}
use Rattle.demand.specs.Tests.{pick}
use Rattle.demand.specs.declared.table.Kind.TheVariants.{Task, Handler}
use Rattle.schedule_file.specs.File.{digits_most, header, letter_of}
use Rattle.schedule_file.specs.declared.steps.Place.{Place}
use Rattle.schedule_file.specs.declared.steps.Place.TheVariants.{Row, From, To}
use Rattle.schedule_file.specs.declared.steps.State.{State}
use Rattle.schedule_file.specs.declared.steps.State.TheVariants.{Broken, Head, HeadCr, Start, First, Digits, RowCr}
use Rattle.text.specs.Numbers.{is_digit, continues, decimal, comma, field}

-- the state where a test holds, else broken
abbrev pub or_broken : Bool → State → State
or_broken t st = pick t st Broken

abbrev pub up_to : Place → List ℕ
up_to (Row kind) = letter_of kind ∷ []
up_to (From kind row) = letter_of kind ∷ (decimal row ++ (comma ∷ []))
up_to (To kind row from) = letter_of kind ∷ (decimal row ++ (field from ++ (comma ∷ [])))

abbrev pub behind : Place → ℕ
behind (Row kind) = comma
behind (From kind row) = comma
behind (To kind row from) = 13

abbrev pub after : Place → ℕ → State
after (Row kind) v = First (From kind v)
after (From kind row) v = First (To kind row v)
after (To kind row from) v = RowCr kind row from v

abbrev pub after_byte : State → ℕ → State
after_byte Broken b = Broken
after_byte (Head k) b =
    pick (ltb k (length header)) (or_broken (eqb b (get_or header k 0)) (Head (k + 1))) (or_broken (eqb b 13) HeadCr)
after_byte HeadCr b = or_broken (eqb b 10) Start
after_byte Start b = pick (eqb b 84) (First (Row Task)) (or_broken (eqb b 72) (First (Row Handler)))
after_byte (First place) b = or_broken (is_digit b) (Digits place (b - 48))
after_byte (Digits place v) b =
    pick (eqb b (behind place)) (after place v) (or_broken (continues (10 ^ digits_most) v b) (Digits place (v * 10 + (b - 48))))
after_byte (RowCr kind row from to) b = or_broken (eqb b 10) Start

abbrev pub is_start : State → Bool
is_start Start = true
is_start Broken = false
is_start (Head k) = false
is_start HeadCr = false
is_start (First place) = false
is_start (Digits place v) = false
is_start (RowCr kind row from to) = false
