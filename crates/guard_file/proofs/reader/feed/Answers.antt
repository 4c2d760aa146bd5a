use Rattle.guard_file.specs.Inside.Building.{done, pushed}
use mathlib.Core.Path.{◌≡◌, refl, ap, ◌∙◌}
use Rattle.guard_file.specs.declared.steps.State.TheVariants.{Broken, Head, HeadCr, Start, Name, First, Digits, RowCr}
use Rattle.guard_file.specs.declared.words.Kind.{Kind}
use Rattle.guard_file.specs.declared.steps.State.{State}
use Rattle.guard_file.specs.Inside.Building.{done}
use borrow.Author.Tests.{eq-eqb, ne_eqb}
use Prim.Native.Nat.{ℕ}
use mathlib.Core.Path.{◌≡◌, refl}
use mathlib.Core.List.{List, []}
use Rattle.guard_file.proofs.reader.feed.Goals as goal

-- No state but RowCr has a guard done.
kept : (st : State) (values : List ℕ) → ((kind : Kind) → st ≡ RowCr kind → ⊥) → done st values ≡ []
kept Broken values h = refl
kept (Head k) values h = refl
kept HeadCr values h = refl
kept Start values h = refl
kept (Name kind k) values h = refl
kept (First kind j) values h = refl
kept (Digits kind j v) values h = refl
kept (RowCr kind) values h = absurd (h kind refl)

pub returns-in-RowCr : goal.returns-in-RowCr
returns-in-RowCr c =
    simp (c.in-RowCr.is, eq-eqb _ _ c.if-b-eq10.true)
    (c.push.ensures ∙ ap (pushed c.args.sheet) c.guard_of.ensures)

pub returns-in_default : goal.returns-in_default
returns-in_default c =
    simp (kept c.args.st c.args.row.values c.in_default.not-RowCr, eq-eqb _ _ c.if-b-eq10.true)

pub returns-else-b-eq10 : goal.returns-else-b-eq10
returns-else-b-eq10 c = simp (ne_eqb _ _ c.if-b-eq10.false)
