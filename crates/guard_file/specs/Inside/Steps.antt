-- The reader's own steps from byte to byte. No public promise cites them.
--   word_of kind         == the name of guards of this kind
--   given kind j        == a guard of this kind has a number in field j
--   behind j            == the byte that ends field j: a comma, or the CR of the row's end behind the last
--   after kind j        == where that byte takes the reader
--   after_byte st b      == where the byte b takes a reader that stands at st
--   is_start st          == st is the start of a row's line
--   noted st values     == the numbers of the row that is read, with the one at which the reader stands
--   guard_of kind values == the guard of this kind with these numbers
use Rattle.std.specs.Prelude.{Bool, true, false, not, ◌&&◌, List, ℕ, ◌+◌, ◌-◌, ◌*◌, ◌^◌, eqb, ltb, length, get_or, set}
use Rattle.demand.specs.Tests.{pick}
use Rattle.guard_file.specs.File.{digits_most, header}
use Rattle.guard_file.specs.declared.steps.State.{State}
use Rattle.guard_file.specs.declared.steps.State.TheVariants.{Broken, Head, HeadCr, Start, Name, First, Digits, RowCr}
use Rattle.guard_file.specs.declared.words.Kind.{Kind}
use Rattle.guard_file.specs.declared.words.Kind.TheVariants.{Single, Burst}
use Rattle.guards.specs.declared.Guard.{Guard}
use Rattle.guards.specs.declared.Guard.TheVariants.{Strict, Bursty}
use Rattle.text.specs.Ascii.{ascii}
use Rattle.text.specs.Numbers.{is_digit, continues, comma}

abbrev pub fields : ℕ
fields = 9

abbrev pub word_of : Kind → List ℕ
word_of Single = ascii "strict"
word_of Burst = ascii "bursty"

-- a strict guard has no n, count and clear, a bursty one no setup
abbrev pub given : Kind → ℕ → Bool
given Single j = not (eqb j 0) && not (eqb j 6) && not (eqb j 7)
given Burst j = not (eqb j 3)

-- the state where a test holds, else broken
abbrev pub or_broken : Bool → State → State
or_broken t st = pick t st Broken

abbrev pub behind : ℕ → ℕ
behind j = pick (ltb j 8) comma 13

abbrev pub after : Kind → ℕ → State
after kind j = pick (ltb j 8) (First kind (j + 1)) (RowCr kind)

abbrev pub after_byte : State → ℕ → State
after_byte Broken b = Broken
after_byte (Head k) b = pick (ltb k (length header)) (or_broken (eqb b (get_or header k 0)) (Head (k + 1))) (or_broken (eqb b 13) HeadCr)
after_byte HeadCr b = or_broken (eqb b 10) Start
after_byte Start b = pick (eqb b 115) (Name Single 1) (or_broken (eqb b 98) (Name Burst 1))
after_byte (Name kind k) b =
    pick (ltb k 6) (or_broken (eqb b (get_or (word_of kind) k 0)) (Name kind (k + 1))) (or_broken (eqb b comma) (First kind 0))
after_byte (First kind j) b =
    pick (given kind j) (or_broken (is_digit b) (Digits kind j (b - 48))) (or_broken (eqb b (behind j)) (after kind j))
after_byte (Digits kind j v) b =
    pick (eqb b (behind j)) (after kind j) (or_broken (continues (10 ^ digits_most) v b) (Digits kind j (v * 10 + (b - 48))))
after_byte (RowCr kind) b = or_broken (eqb b 10) Start

abbrev pub is_start : State → Bool
is_start Start = true
is_start Broken = false
is_start (Head k) = false
is_start HeadCr = false
is_start (Name kind k) = false
is_start (First kind j) = false
is_start (Digits kind j v) = false
is_start (RowCr kind) = false

abbrev pub noted : State → List ℕ → List ℕ
noted (Digits kind j v) values = pick (ltb j fields) (set values j v) values
noted Start values = values
noted Broken values = values
noted (Head k) values = values
noted HeadCr values = values
noted (Name kind k) values = values
noted (First kind j) values = values
noted (RowCr kind) values = values

abbrev pub guard_of : Kind → List ℕ → Guard
guard_of Single values = Strict (get_or values 1 0) (get_or values 2 0) (get_or values 3 0) (get_or values 4 0) (get_or values 5 0) (get_or values 8 0)
guard_of Burst values =
    Bursty (get_or values 0 0) (get_or values 1 0) (get_or values 2 0) (get_or values 4 0) (get_or values 5 0) (get_or values 6 0) (get_or values 7 0)
    (get_or values 8 0)
