-- The reader's own steps from byte to byte, under a header of three or four columns. No public promise cites them.
--   Place               == which number of a row: of what kind, and behind which numbers
--   up_to place          == the text of a row as far as this number: its name, the numbers before it, and a comma
--   behind cols place   == the byte that ends this number: the CR of its row's end, or a comma before the next field
--   after cols place v  == where that byte takes a reader that has read v
--   emptied place       == where a CR takes a reader that has read no digit: a handler's deadline alone may be left out
--   after_byte cols st b    == where the byte b takes a reader that stands at st
--   Leads st b r        the byte b takes a reader that stands at st to r under either header
--   is_start st          == st is the start of a row's line
--   columns_of bs        == the columns of the file bs, which the byte behind `kind,cost,period` tells
use Rattle.std.specs.Prelude.{Bool, true, false, List, [], ◌∷◌, ◌++◌, ◌≡◌, ℕ, ◌+◌, ◌-◌, ◌*◌, ◌^◌, eqb, ltb, length, get_or}
use Rattle.demand.specs.Tests.{pick}
use Rattle.demand.specs.declared.table.Kind.{Kind}
use Rattle.demand.specs.declared.table.Kind.TheVariants.{Task, Handler}
use Rattle.layout.specs.File.{digits_most, header_of, name_of}
use Rattle.layout.specs.declared.steps.Last.TheVariants.{NoField, Empty, Number}
use Rattle.layout.specs.declared.steps.Place.{Place}
use Rattle.layout.specs.declared.steps.Place.TheVariants.{Cost, Period, Deadline}
use Rattle.layout.specs.declared.steps.State.{State}
use Rattle.layout.specs.declared.steps.State.TheVariants.{Broken, Head, HeadCr, Start, Name, First, Digits, RowCr}
use Rattle.layout.specs.declared.words.Columns.{Columns}
use Rattle.layout.specs.declared.words.Columns.TheVariants.{Three, Four}
use Rattle.text.specs.Numbers.{is_digit, continues, comma, field}

-- the state where a test holds, else broken
abbrev pub or_broken : Bool → State → State
or_broken t st = pick t st Broken

abbrev pub up_to : Place → List ℕ
up_to (Cost kind) = name_of kind ++ (comma ∷ [])
up_to (Period kind c) = name_of kind ++ (field c ++ (comma ∷ []))
up_to (Deadline kind c p) = name_of kind ++ (field c ++ (field p ++ (comma ∷ [])))

abbrev pub behind_period : Columns → ℕ
behind_period Three = 13
behind_period Four = comma

abbrev pub behind : Columns → Place → ℕ
behind cols (Cost kind) = comma
behind cols (Period kind c) = behind_period cols
behind cols (Deadline kind c p) = 13

abbrev pub after_period : Columns → Kind → ℕ → ℕ → State
after_period Three kind c p = RowCr kind c p NoField
after_period Four kind c p = First (Deadline kind c p)

abbrev pub after : Columns → Place → ℕ → State
after cols (Cost kind) v = First (Period kind v)
after cols (Period kind c) v = after_period cols kind c v
after cols (Deadline kind c p) v = RowCr kind c p (Number v)

-- a row that ends behind its last comma: a handler's may
abbrev pub empty_last : Kind → ℕ → ℕ → State
empty_last Task c p = Broken
empty_last Handler c p = RowCr Handler c p Empty

abbrev pub emptied : Place → State
emptied (Cost kind) = Broken
emptied (Period kind c) = Broken
emptied (Deadline kind c p) = empty_last kind c p

abbrev pub after_byte : Columns → State → ℕ → State
after_byte cols Broken b = Broken
after_byte cols (Head k) b =
    pick (ltb k (length (header_of cols))) (or_broken (eqb b (get_or (header_of cols) k 0)) (Head (k + 1))) (or_broken (eqb b 13) HeadCr)
after_byte cols HeadCr b = or_broken (eqb b 10) Start
after_byte cols Start b = pick (eqb b 116) (Name Task 1) (or_broken (eqb b 104) (Name Handler 1))
after_byte cols (Name kind k) b =
    pick (ltb k (length (name_of kind)))
    (or_broken (eqb b (get_or (name_of kind) k 0)) (Name kind (k + 1)))
    (or_broken (eqb b comma) (First (Cost kind)))
after_byte cols (First place) b = pick (eqb b 13) (emptied place) (or_broken (is_digit b) (Digits place (b - 48)))
after_byte cols (Digits place v) b =
    pick (eqb b (behind cols place)) (after cols place v) (or_broken (continues (10 ^ digits_most) v b) (Digits place (v * 10 + (b - 48))))
after_byte cols (RowCr kind c p last) b = or_broken (eqb b 10) Start

abbrev pub Leads : State → ℕ → State → Type 0
Leads st b r = (cols : Columns) → r ≡ after_byte cols st b

abbrev pub is_start : State → Bool
is_start Start = true
is_start Broken = false
is_start (Head k) = false
is_start HeadCr = false
is_start (Name kind k) = false
is_start (First place) = false
is_start (Digits place v) = false
is_start (RowCr kind c p last) = false

-- behind `kind,cost,period` a header of four columns goes on with a comma
abbrev pub columns_of : List ℕ → Columns
columns_of bs = pick (eqb (get_or bs (length (header_of Three)) 0) comma) Four Three
