-- The whole: the output meets the promise, and the promise allows no other.
use mathlib.Core.Bool.{Bool, true, false}
use mathlib.Core.List.{List, [], ◌∷◌}
use mathlib.Core.Logic.{◌⊎◌, inl, inr}
use mathlib.Core.Path.{◌≡◌, sym, ap, subst, ◌∙◌}
use native.Mathlib.Omega.{arith}
use Prim.Native.Nat.{ℕ, ◌<◌}
use Rattle.std.specs.Prelude.{Option, Some, None, Result, Ok, Err}
use Rattle.std.specs.Result.{result_err}
use Rattle.demand.specs.Numbered.{number_of}
use Rattle.demand.specs.declared.refusal.Refusal.{Refusal}
use Rattle.demand.specs.declared.refusal.Refusal.TheVariants.{FileMalformed}
use Rattle.demand.specs.declared.table.Kind.TheVariants.{Task, Handler}
use Rattle.layout.specs.File as table
use Rattle.layout.specs.Refusals.{Misplaces, TableIn}
use Rattle.layout.specs.Table.{list_of, misplaced}
use Rattle.layout.specs.declared.reader.Table.{Table}
use Rattle.layout.proofs.File as table-laws
use Rattle.layout.proofs.Table.{table-lists, table-refused}
use Rattle.schedule_file.specs.File.{Entry}
use Rattle.schedule_file.specs.Schedule.{numbers_of, listed, ReadSays}
use Rattle.schedule_file.specs.declared.reader.Schedule.{Schedule}
use Rattle.schedule_file.proofs.File.{says-unique}
use Rattle.schedule_file.proofs.Read.{read-said, read-broken}
use Rattle.schedule_sheet.specs.Printed.{printed}
use Rattle.schedule_sheet.specs.Whole.{broken_refusal, ScheduleFigures, TableFigures, FileFigures, output_of, JudgedSays, OneJudgement}
use Rattle.segments.specs.Promise.{Figures, figures, refusal_of, Word}
use Rattle.segments.specs.Promise.{SaysBy, Says, JudgeSays, judge_refusal}
use Rattle.segments.specs.Promise.Word.{accepted, broken, refused}
use Rattle.segments.proofs.Answers as judged
use Rattle.segments.proofs.Refusals.{torn-refusal}
use Rattle.text.specs.Reasons.{reason}
use Rattle.text.proofs.Reasons.{reason-none, reason-some}

-- ---- the schedule file

-- A list that is not in fours is refused: by the table's own number, or else 16.
torn-figures : (t h : List ℕ) (L : ℕ) (g : Figures) → Says t h (0 ∷ []) L g → g ≡ refusal_of (broken_refusal t h)
unfolding Says SaysBy
torn-figures t h L g = go g.word
  where
    number : (judge_refusal t h (0 ∷ []) L ≡ broken_refusal t h) × (0 < judge_refusal t h (0 ∷ []) L)
    number = torn-refusal t h L

    go : (w : Word) → SaysBy w t h (0 ∷ []) L g → g ≡ refusal_of (broken_refusal t h)
    go accepted says = absurd (omega (arith, number.1, says.answered))
    go broken says = absurd (omega (arith, number.1, says.answered))
    go refused says = says.figures ∙ ap refusal_of number.0

module _ (t h bs : List ℕ) (L : ℕ) (a : Result (Option ℕ) Refusal) where
  -- Broken: a list that is not in fours was judged.
  pub schedule-torn : (e : Refusal) → ReadSays bs (Err e) → JudgeSays t h (0 ∷ []) L a → ScheduleFigures t h bs L (figures a)
  unfolding ScheduleFigures JudgeSays
  schedule-torn e read says = inr ((read-broken bs e read).0, torn-figures t h L (figures a) says)

  -- Read: its segments were.
  pub schedule-read : (r : Schedule) (s : List ℕ) → ReadSays bs (Ok r) → s ≡ listed r → JudgeSays t h s L a → ScheduleFigures t h bs L (figures a)
  unfolding ScheduleFigures JudgeSays
  schedule-read r s read lent says =
      let said = read-said bs r read in
      inl (said.0, said.1, subst (λ (z : List ℕ). Says t h z L (figures a)) (lent ∙ said.2) says)

-- ---- the answer to a table file

module _ (tb bs : List ℕ) (L : ℕ) where
  -- What is refused,
  pub file-refused : (e : Refusal) → TableIn tb (Err e) → FileFigures tb bs L (figures (Err e))
  unfolding TableFigures figures
  file-refused e told = go (table-refused tb e told)
    where
      go : Misplaces tb e ⊎ (table.SaysNothing tb × (e ≡ FileMalformed)) → FileFigures tb bs L (figures (Err e))
      go (inl m) =
          inl (
            m.rows,
            m.says,
            subst (λ (b : Bool). TableFigures b (list_of Task m.rows) (list_of Handler m.rows) bs L (figures (Err e))) (sym m.placed)
                (ap refusal_of m.number),
          )
      go (inr n) = inr (n.0, ap (λ (x : Refusal). refusal_of (number_of x)) n.1)

  -- and what is judged of the lists that are lent.
  pub file-judged : (t : Table) (ts hs : List ℕ) (r : Result (Option ℕ) Refusal) → TableIn tb (Ok t)
      → ts ≡ t.tasks → hs ≡ t.handlers → ScheduleFigures ts hs bs L (figures r) → FileFigures tb bs L (figures r)
  unfolding TableFigures
  file-judged t ts hs r told tasks handlers says =
      let l = table-lists tb t told in
      let lent : ScheduleFigures (list_of Task l.rows) (list_of Handler l.rows) bs L (figures r) =
      subst (λ (s : List ℕ). ScheduleFigures s (list_of Handler l.rows) bs L (figures r)) (tasks ∙ l.tasks)
      (subst (λ (s : List ℕ). ScheduleFigures ts s bs L (figures r)) (handlers ∙ l.handlers) says) in
      inl (l.rows, l.says, subst (λ (b : Bool). TableFigures b (list_of Task l.rows) (list_of Handler l.rows) bs L (figures r)) (sym l.placed) lent)

reason-of : (r : Result (Option ℕ) Refusal) → result_err r ≡ reason (figures r).code
unfolding figures
reason-of (Ok None) = reason-none
reason-of (Ok (Some tick)) = reason-none
reason-of (Err e) = reason-some e

-- What is written of it.
pub judged-says : (tb bs : List ℕ) (L : ℕ) (r : Result (Option ℕ) Refusal) (text : List ℕ) (refusal : Option Refusal) → FileFigures tb bs L (figures r)
    → text ≡ printed (figures r) → refusal ≡ result_err r → JudgedSays tb bs L (record { text = text; refusal = refusal })
judged-says tb bs L r text refusal told lines e =
    record { told = figures r; figures = told; written = λ i. record { text = lines i; refusal = (e ∙ reason-of r) i } }

-- ---- and no other does

schedule-unique : (t h bs : List ℕ) (L : ℕ) (f g : Figures) → ScheduleFigures t h bs L f → ScheduleFigures t h bs L g → f ≡ g
unfolding ScheduleFigures
schedule-unique t h bs L f g (inl a) (inl b) =
    let same : b.0 ≡ a.0 = says-unique bs b.0 a.0 b.1 a.1 in
    judged.says-unique t h (numbers_of a.0) L f g a.2 (subst (λ (es : List Entry). Says t h (numbers_of es) L g) same b.2)
schedule-unique t h bs L f g (inl a) (inr b) = absurd (b.0 a.0 a.1)
schedule-unique t h bs L f g (inr a) (inl b) = absurd (a.0 b.0 b.1)
schedule-unique t h bs L f g (inr a) (inr b) = a.1 ∙ sym b.1

table-unique : (m : Bool) (t h bs : List ℕ) (L : ℕ) (f g : Figures) → TableFigures m t h bs L f → TableFigures m t h bs L g → f ≡ g
unfolding TableFigures
table-unique true t h bs L f g a b = a ∙ sym b
table-unique false t h bs L f g a b = schedule-unique t h bs L f g a b

file-unique : (tb bs : List ℕ) (L : ℕ) (f g : Figures) → FileFigures tb bs L f → FileFigures tb bs L g → f ≡ g
file-unique tb bs L f g (inl a) (inl b) =
    let same : b.0 ≡ a.0 = table-laws.says-unique tb b.0 a.0 b.1 a.1 in
    table-unique (misplaced a.0) (list_of Task a.0) (list_of Handler a.0) bs L f g a.2
    (subst (λ (es : List table.Entry). TableFigures (misplaced es) (list_of Task es) (list_of Handler es) bs L g) same b.2)
file-unique tb bs L f g (inl a) (inr b) = absurd (b.0 a.0 a.1)
file-unique tb bs L f g (inr a) (inl b) = absurd (a.0 b.0 b.1)
file-unique tb bs L f g (inr a) (inr b) = a.1 ∙ sym b.1

-- Two files and a span have one output.
pub judged-unique : OneJudgement
judged-unique tb bs L a b s t =
    s.written ∙ ap output_of (file-unique tb bs L s.told t.told s.figures t.figures) ∙ sym t.written
