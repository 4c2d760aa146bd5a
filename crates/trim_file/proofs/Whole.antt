-- The whole: what is written meets the promise, and the promise allows nothing else.
use mathlib.Core.Bool.{Bool, true, false}
use mathlib.Core.List.{List, [], ◌++◌, append-nil}
use mathlib.Core.Logic.{◌⊎◌, inl, inr}
use mathlib.Core.Path.{◌≡◌, refl, sym, ap, ◌∙◌, subst}
use native.Mathlib.Omega.{arith}
use Prim.Native.Nat.{ℕ, ◌<◌}
use lib.ListN.{length}
use Rattle.std.specs.Prelude.{Option, Some, None, Result, Ok, Err}
use Rattle.demand.specs.Numbered as refusal
use Rattle.demand.specs.Numbered.{refusal_at}
use Rattle.demand.specs.declared.refusal.Refusal.{Refusal}
use Rattle.demand.specs.declared.refusal.Refusal.TheVariants.{FileMalformed}
use Rattle.demand.proofs.Numbered.{refusal_at-number}
use Rattle.demand.specs.Rows.{tasks_of}
use Rattle.demand.specs.declared.table.Kind.TheVariants.{Task, Handler}
use Rattle.layout.specs.File.{Entry, FileSays, SaysNothing, file_text}
use Rattle.layout.specs.Refusals.{Misplaces, TableIn}
use Rattle.layout.specs.Table.{list_of, misplaced}
use Rattle.layout.specs.declared.reader.Table.{Table}
use Rattle.layout.specs.declared.words.Columns.{Columns}
use Rattle.layout.proofs.File.{says-unique}
use Rattle.layout.proofs.Table.{table-lists, table-refused}
use Rattle.recost.specs.Inside.Scan.{cost_from, recosted}
use Rattle.recost.specs.Rewritten.{cost_in, tasks_in, Rewritten}
use Rattle.recost.proofs.Changed.{table-changed}
use Rattle.recost.proofs.Rewritten.{found_within, rewrites}
use Rattle.text.specs.Ascii.{crlf}
use Rattle.trim.specs.Costs.{cost_at}
use Rattle.trim.specs.Promise.{figures, TrimSays, Says, SaysBy}
use Rattle.trim.specs.declared.Cut.{Cut}
use Rattle.trim.proofs.Answers.{answered-readable, trim-unique}
use Rattle.trim_file.specs.Inside.{Replaces, CanCut, CanWrite, output_cut, output_by}
use Rattle.trim_file.specs.Printed.{Outcome, lines_of, file_of, number_of}
use Rattle.trim_file.specs.Printed.Outcome.{refused, none, cost}
use Rattle.trim_file.specs.Whole.{output_of, AnswerIn, FileAnswers, CutComes, Comes, Answered, OutcomeSays, TrimmedSays, OneTrim}
use Rattle.trim_file.specs.declared.Output.{Output}

-- ---- an answer with a cost

-- It is of a task that is in the table, and says its present cost.
pub cost-told : (m : Bool) (t h : List ℕ) (i old new : ℕ) → AnswerIn m t h i (Ok (record { old = old; new = Some new }))
    → (i < length (tasks_of t)) × (old ≡ cost_at t i)
unfolding AnswerIn TrimSays Says SaysBy figures
cost-told true t h i old new e = absurd (cc)
cost-told false t h i old new says =
    ((answered-readable t h i says.answered).1, ap (λ g. g.old) says.figures)

-- how a file ends, and what stands before that
record Ending (bs : List ℕ) (es : List Entry) (cols : Columns) : Type 0 where
  end : List ℕ
  ends : (end ≡ []) ⊎ (end ≡ crlf)
  was : bs ≡ file_text cols es ++ end

ending : (bs : List ℕ) (es : List Entry) (file : FileSays bs es) → Ending bs es file.cols
ending bs es file = go file.written
  where
    go : (bs ≡ file_text file.cols es) ⊎ (bs ≡ file_text file.cols es ++ crlf) → Ending bs es file.cols
    go (inl e) = record { end = []; ends = inl refl; was = e ∙ sym (append-nil (file_text file.cols es)) }
    go (inr e) = record { end = crlf; ends = inr refl; was = e }

module _ (bs : List ℕ) (es : List Entry) (i : ℕ) (file : FileSays bs es) where
  -- The row of a task of the table is one of the file, and its cost the same.
  pub row_in : i < length (tasks_of (list_of Task es)) → i < tasks_in es
  row_in h = omega (arith, table-changed.many es)

  pub cost-in : cost_at (list_of Task es) i ≡ cost_in es i
  unfolding cost_at
  cost-in = sym (table-changed.changed es i 0).present

  -- Its digits can be replaced, and the file is then rewritten.
  replaces : i < tasks_in es → Replaces bs i (cost_in es i)
  replaces row =
      let e = ending bs es file in
      record { within = found_within bs es i 0 row file.cols e.end e.was; small = file.small }

  rewritten : i < tasks_in es → (c : ℕ) → Rewritten bs es i c (recosted bs (cost_from bs i) (cost_in es i) c)
  rewritten row c =
      let e = ending bs es file in
      record {
        cols = file.cols;
        end = e.end;
        ends = e.ends;
        lawful = file.lawful;
        was = e.was;
        is = rewrites bs es i c row file.cols e.end e.was;
      }

  abbrev In : Result Cut Refusal → Type 0
  In a = AnswerIn (misplaced es) (list_of Task es) (list_of Handler es) i a

  can_cut : (old : ℕ) (new : Option ℕ) → In (Ok (record { old = old; new = new })) → CanCut bs i old new
  can_cut old None says = tt
  can_cut old (Some new) says =
      let told = cost-told (misplaced es) (list_of Task es) (list_of Handler es) i old new says in
      subst (Replaces bs i) (sym (told.1 ∙ cost-in)) (replaces (row_in told.0))

  can_write : (a : Result Cut Refusal) → In a → CanWrite bs i a
  unfolding CanWrite
  can_write (Ok cut) says = can_cut cut.old cut.new says
  can_write (Err e) says = tt

  -- What is written of an answer is an outcome that the promise allows.
  cut-written : (old : ℕ) (new : Option ℕ) → In (Ok (record { old = old; new = new })) → (out : Output) → out ≡ output_cut bs i old new
      → TrimmedSays bs i out
  unfolding Comes
  cut-written old None says out e = record {
    outcome = none old;
    says = inl (es, file, record { answer = Ok (record { old = old; new = None }); says = says; comes = refl });
    written = e;
  }
  cut-written old (Some new) says out e =
      let told = cost-told (misplaced es) (list_of Task es) (list_of Handler es) i old new says in
      let new-file = recosted bs (cost_from bs i) old new in
      let is : Rewritten bs es i new new-file =
      subst (λ (x : ℕ). Rewritten bs es i new (recosted bs (cost_from bs i) x new)) (sym (told.1 ∙ cost-in)) (rewritten (row_in told.0) new) in
      record {
        outcome = cost old new new-file;
        says = inl (es, file, record { answer = Ok (record { old = old; new = Some new }); says = says; comes = (new-file, is, refl) });
        written = e;
      }

  answer-written : (a : Result Cut Refusal) → In a → (out : Output) → out ≡ output_by bs i a → TrimmedSays bs i out
  unfolding output_by Comes
  answer-written (Ok cut) says out e = cut-written cut.old cut.new says out e
  answer-written (Err r) says out e = record {
    outcome = refused (refusal.number_of r);
    says = inl (es, file, record { answer = Err r; says = says; comes = refl });
    written = e;
  }

  -- Whatever is a rewritten file is what the code writes.
  written_is : i < tasks_in es → (c : ℕ) (out : List ℕ) → Rewritten bs es i c out → out ≡ recosted bs (cost_from bs i) (cost_in es i) c
  written_is row c out r = r.is ∙ sym (rewrites bs es i c row r.cols r.end r.was)

  cut-unique : (old : ℕ) (new : Option ℕ) → In (Ok (record { old = old; new = new })) → (o p : Outcome)
      → CutComes bs es i old new o → CutComes bs es i old new p → o ≡ p
  cut-unique old None says o p x y = x ∙ sym y
  cut-unique old (Some new) says o p x y =
      let row = row_in (cost-told (misplaced es) (list_of Task es) (list_of Handler es) i old new says).0 in
      x.2 ∙ ap (cost old new) (written_is row new x.0 x.1 ∙ sym (written_is row new y.0 y.1)) ∙ sym y.2

  answered-unique : (a : Result Cut Refusal) → In a → (o p : Outcome) → Comes bs es i a o → Comes bs es i a p → o ≡ p
  unfolding Comes
  answered-unique (Ok cut) says o p x y = cut-unique cut.old cut.new says o p x y
  answered-unique (Err r) says o p x y = x ∙ sym y

-- ---- the answer for the table of a file

module _ (bs : List ℕ) (i : ℕ) where
  pub file-refused : (r : Refusal) → TableIn bs (Err r) → FileAnswers bs i (Err r)
  unfolding FileAnswers AnswerIn
  file-refused r told = go (table-refused bs r told)
    where
      go : Misplaces bs r ⊎ (SaysNothing bs × (r ≡ FileMalformed)) → FileAnswers bs i (Err r)
      go (inl m) =
          inl (
            m.rows,
            m.says,
            subst (λ (b : Bool). AnswerIn b (list_of Task m.rows) (list_of Handler m.rows) i (Err r)) (sym m.placed)
                (ap Err (sym (refusal_at-number r) ∙ ap refusal_at m.number)),
          )
      go (inr n) = inr (n.0, ap Err n.1)

  pub file-trimmed : (t : Table) (ts hs : List ℕ) (a : Result Cut Refusal) → TableIn bs (Ok t)
      → ts ≡ t.tasks → hs ≡ t.handlers → TrimSays ts hs i a → FileAnswers bs i a
  unfolding FileAnswers AnswerIn
  file-trimmed t ts hs a told tasks handlers says =
      let l = table-lists bs t told in
      let lent : TrimSays (list_of Task l.rows) (list_of Handler l.rows) i a =
      subst (λ (s : List ℕ). TrimSays s (list_of Handler l.rows) i a) (tasks ∙ l.tasks)
      (subst (λ (s : List ℕ). TrimSays ts s i a) (handlers ∙ l.handlers) says) in
      inl (l.rows, l.says, subst (λ (b : Bool). AnswerIn b (list_of Task l.rows) (list_of Handler l.rows) i a) (sym l.placed) lent)

  pub file-can_write : (a : Result Cut Refusal) → FileAnswers bs i a → CanWrite bs i a
  unfolding FileAnswers CanWrite
  file-can_write a (inl f) = can_write bs f.0 i f.1 a f.2
  file-can_write a (inr n) = subst (CanWrite bs i) (sym n.1) tt

  pub file-written : (a : Result Cut Refusal) → FileAnswers bs i a → (out : Output) → out ≡ output_by bs i a → TrimmedSays bs i out
  unfolding FileAnswers output_by
  file-written a (inl f) out e = answer-written bs f.0 i f.1 a f.2 out e
  file-written a (inr n) out e =
      record { outcome = refused 12; says = inr (n.0, refl); written = e ∙ ap (output_by bs i) n.1 }

-- ---- and nothing else is allowed

answer-unique : (m : Bool) (t h : List ℕ) (i : ℕ) (a b : Result Cut Refusal) → AnswerIn m t h i a → AnswerIn m t h i b → a ≡ b
unfolding AnswerIn
answer-unique true t h i a b x y = x ∙ sym y
answer-unique false t h i a b x y = trim-unique t h i a b x y

outcome-unique : (bs : List ℕ) (i : ℕ) (o p : Outcome) → OutcomeSays bs i o → OutcomeSays bs i p → o ≡ p
outcome-unique bs i o p (inl a) (inl b) =
    let es = a.0 in
    let other : Answered bs es i p = subst (λ (q : List Entry). Answered bs q i p) (says-unique bs b.0 es b.1 a.1) b.2 in
    let same : other.answer ≡ a.2.answer =
    answer-unique (misplaced es) (list_of Task es) (list_of Handler es) i other.answer a.2.answer other.says a.2.says in
    answered-unique bs es i a.1 a.2.answer a.2.says o p a.2.comes (subst (λ (x : Result Cut Refusal). Comes bs es i x p) same other.comes)
outcome-unique bs i o p (inl a) (inr b) = absurd (b.0 a.0 a.1)
outcome-unique bs i o p (inr a) (inl b) = absurd (a.0 b.0 b.1)
outcome-unique bs i o p (inr a) (inr b) = a.1 ∙ sym b.1

pub trimmed-unique : OneTrim
trimmed-unique bs i a b x y =
    x.written
    ∙ ap (λ (o : Outcome). output_of (lines_of i o) (file_of o) (number_of o)) (outcome-unique bs i x.outcome y.outcome x.says y.says)
    ∙ sym y.written
