-- The whole: the output meets the sheet's promise, and the promise allows no other.
use mathlib.Core.Bool.{Bool, true, false}
use mathlib.Core.List.{List}
use mathlib.Core.Logic.{◌⊎◌, inl, inr}
use Rattle.std.specs.Prelude.{Option, Result, Ok, Err}
use Rattle.std.specs.Result.{result_err}
use mathlib.Core.Path.{◌≡◌, sym, ap, subst, ◌∙◌}
use Prim.Native.Nat.{ℕ}
use Rattle.demand.specs.Numbered.{number_of}
use Rattle.demand.specs.declared.refusal.Refusal.{Refusal}
use Rattle.demand.specs.declared.refusal.Refusal.TheVariants.{FileMalformed}
use Rattle.demand.specs.declared.table.Kind.TheVariants.{Task, Handler}
use Rattle.layout.specs.File.{Entry, SaysNothing}
use Rattle.layout.specs.Refusals.{Misplaces, TableIn}
use Rattle.layout.specs.Table.{list_of, misplaced}
use Rattle.layout.specs.declared.reader.Table.{Table}
use Rattle.sheet.specs.Printed.{printed}
use Rattle.sheet.specs.Whole.{TableFigures, FileFigures, output_of, SheetSays, OneSheet}
use Rattle.text.specs.Reasons.{reason}
use Rattle.verdict.specs.Promise.{Figures, figures, refusal_of, Says, VerdictSays}
use Rattle.verdict.specs.declared.Answer.{Answer}
use Rattle.verdict.specs.declared.Answer.TheVariants as answer
use Rattle.layout.proofs.File.{says-unique}
use Rattle.layout.proofs.Table.{table-lists, table-refused}
use Rattle.text.proofs.Reasons.{reason-none, reason-some}
use Rattle.verdict.proofs.Promise as verdict

-- ---- the output meets the promise

-- What is refused,
pub file-refused : (bs : List ℕ) (e : Refusal) → TableIn bs (Err e) → FileFigures bs (figures (Err e))
unfolding TableFigures figures
file-refused bs e told = go (table-refused bs e told)
  where
    go : Misplaces bs e ⊎ (SaysNothing bs × (e ≡ FileMalformed)) → FileFigures bs (figures (Err e))
    go (inl m) =
        inl (m.rows, m.says, subst (λ (b : Bool). TableFigures b (list_of Task m.rows) (list_of Handler m.rows) (figures (Err e))) (sym m.placed) (ap refusal_of m.number))
    go (inr n) = inr (n.0, ap (λ (x : Refusal). refusal_of (number_of x)) n.1)

-- and the verdict on what is lent.
pub file-judged : (bs : List ℕ) (t : Table) (ts hs : List ℕ) (r : Result Answer Refusal) → TableIn bs (Ok t)
    → ts ≡ t.tasks → hs ≡ t.handlers → VerdictSays ts hs r → FileFigures bs (figures r)
unfolding TableFigures VerdictSays
file-judged bs t ts hs r told tasks handlers says =
    let l = table-lists bs t told in
    let lent : Says (list_of Task l.rows) (list_of Handler l.rows) (figures r) =
    subst (λ (s : List ℕ). Says s (list_of Handler l.rows) (figures r)) (tasks ∙ l.tasks)
    (subst (λ (s : List ℕ). Says ts s (figures r)) (handlers ∙ l.handlers) says) in
    inl (l.rows, l.says, subst (λ (b : Bool). TableFigures b (list_of Task l.rows) (list_of Handler l.rows) (figures r)) (sym l.placed) lent)

reason-of : (r : Result Answer Refusal) → result_err r ≡ reason (figures r).code
unfolding figures
reason-of (Ok (answer.Fits load tested)) = reason-none
reason-of (Ok (answer.Misses miss load)) = reason-none
reason-of (Err e) = reason-some e

-- What is written of it.
pub sheet-says : (bs : List ℕ) (r : Result Answer Refusal) (text : List ℕ) (refusal : Option Refusal) → FileFigures bs (figures r)
    → text ≡ printed (figures r) → refusal ≡ result_err r → SheetSays bs (record { text = text; refusal = refusal })
sheet-says bs r text refusal told lines e =
    record { sheet = figures r; figures = told; written = λ i. record { text = lines i; refusal = (e ∙ reason-of r) i } }

-- ---- and no other does

table-unique : (m : Bool) (t h : List ℕ) (f g : Figures) → TableFigures m t h f → TableFigures m t h g → f ≡ g
unfolding TableFigures
table-unique true t h f g a b = a ∙ sym b
table-unique false t h f g a b = verdict.says-unique t h f g a b

file-unique : (bs : List ℕ) (f g : Figures) → FileFigures bs f → FileFigures bs g → f ≡ g
file-unique bs f g (inl a) (inl b) =
    let same : b.0 ≡ a.0 = says-unique bs b.0 a.0 b.1 a.1 in
    table-unique (misplaced a.0) (list_of Task a.0) (list_of Handler a.0) f g a.2
    (subst (λ (es : List Entry). TableFigures (misplaced es) (list_of Task es) (list_of Handler es) g) same b.2)
file-unique bs f g (inl a) (inr b) = absurd (b.0 a.0 a.1)
file-unique bs f g (inr a) (inl b) = absurd (a.0 b.0 b.1)
file-unique bs f g (inr a) (inr b) = a.1 ∙ sym b.1

pub sheet-unique : OneSheet
sheet-unique bs a b s t = s.written ∙ ap output_of (file-unique bs s.sheet t.sheet s.figures t.figures) ∙ sym t.written
