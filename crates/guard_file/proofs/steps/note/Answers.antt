use Rattle.guard_file.specs.declared.steps.State.TheVariants.{Broken, Head, HeadCr, Start, Name, First, Digits, RowCr}
use Rattle.guard_file.specs.declared.words.Kind.{Kind}
use Rattle.guard_file.specs.declared.steps.State.{State}
use Rattle.guard_file.specs.Inside.Steps.{noted}
use borrow.Author.Tests.{lt-ltb, le-ltb}
use Prim.Native.Nat.{ℕ}
use mathlib.Core.Path.{◌≡◌, refl, sym}
use mathlib.Core.List.{List}
use Rattle.guard_file.proofs.steps.note.Goals as goal

-- At no other state is there a number to be noted.
elsewhere : (st : State) (values : List ℕ) → ((kind : Kind) (j v : ℕ) → st ≡ Digits kind j v → ⊥) → noted st values ≡ values
elsewhere Broken values h = refl
elsewhere (Head k) values h = refl
elsewhere HeadCr values h = refl
elsewhere Start values h = refl
elsewhere (Name kind k) values h = refl
elsewhere (First kind j) values h = refl
elsewhere (Digits kind j v) values h = absurd (h kind j v refl)
elsewhere (RowCr kind) values h = refl

pub returns-then-j-lt-FIELDS : goal.returns-then-j-lt-FIELDS
returns-then-j-lt-FIELDS c = rw (c.in-Digits.is, lt-ltb _ _ c.if-j-lt-FIELDS.true)

pub returns-else-j-lt-FIELDS : goal.returns-else-j-lt-FIELDS
returns-else-j-lt-FIELDS c = rw (c.in-Digits.is, le-ltb _ _ c.if-j-lt-FIELDS.false)

pub returns-in_default : goal.returns-in_default
returns-in_default c = sym (elsewhere c.args.st c.args.row.values c.in_default.not-Digits)
