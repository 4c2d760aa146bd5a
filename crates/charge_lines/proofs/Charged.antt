-- The figures of a file (specs/Files): what the code finds meets the promise, and the promise allows nothing else.
use mathlib.Core.Bool.{Bool, true, false, true≢false}
use mathlib.Core.List.{List}
use mathlib.Core.Logic.{◌⊎◌, inl, inr}
use mathlib.Core.Path.{◌≡◌, refl, sym, ap, ◌∙◌, subst}
use Prim.Native.Nat.{ℕ}
use Rattle.charge_lines.specs.Files.{AnswerIn, FileAnswers, Answered, FileTold, FileCharged, OneCharge}
use Rattle.charges.specs.Figures.{figures}
use Rattle.charges.specs.Promise.{quantum_outside, ChargeSays}
use Rattle.charges.specs.declared.Charged.{Charged}
use Rattle.std.specs.Prelude.{Result, Ok, Err}
use Rattle.demand.specs.Numbered.{refusal_at}
use Rattle.demand.specs.declared.refusal.Refusal.{Refusal}
use Rattle.demand.specs.declared.refusal.Refusal.TheVariants.{FileMalformed, QuantumOutOfRange}
use Rattle.demand.proofs.Numbered.{refusal_at-number}
use Rattle.charges.specs.declared.figures.Figures.{Figures}
use Rattle.charges.proofs.Once.{charge-unique}
use Rattle.demand.specs.declared.table.Kind.TheVariants.{Task, Handler}
use Rattle.layout.specs.File.{Entry, FileSays, SaysNothing}
use Rattle.layout.specs.Refusals.{Misplaces, TableIn}
use Rattle.layout.specs.Table.{list_of, misplaced}
use Rattle.layout.specs.declared.reader.Table.{Table}
use Rattle.layout.proofs.File.{says-unique}
use Rattle.layout.proofs.Table.{table-lists, table-refused}

-- ---- the answer for the table of a file

module _ (bs : List ℕ) (q : ℕ) where
  pub answers-nineteen : quantum_outside q ≡ true → FileAnswers bs q (Err QuantumOutOfRange)
  unfolding FileAnswers
  answers-nineteen out = inl (out, refl)

  module _ (inside : quantum_outside q ≡ false) where
    pub answers-refused : (r : Refusal) → TableIn bs (Err r) → FileAnswers bs q (Err r)
    unfolding FileAnswers AnswerIn
    answers-refused r told = go (table-refused bs r told)
      where
        go : Misplaces bs r ⊎ (SaysNothing bs × (r ≡ FileMalformed)) → FileAnswers bs q (Err r)
        go (inl m) =
            inr (
              inside,
              inl (
                m.rows,
                m.says,
                subst (λ (b : Bool). AnswerIn b (list_of Task m.rows) (list_of Handler m.rows) q (Err r)) (sym m.placed)
                    (ap Err (sym (refusal_at-number r) ∙ ap refusal_at m.number)),
              ),
            )
        go (inr n) = inr (inside, inr (n.0, ap Err n.1))

    pub answers-charged : (t : Table) (ts hs : List ℕ) (a : Result Charged Refusal) → TableIn bs (Ok t)
        → ts ≡ t.tasks → hs ≡ t.handlers → ChargeSays ts hs q a → FileAnswers bs q a
    unfolding FileAnswers AnswerIn
    answers-charged t ts hs a told tasks handlers says =
        let l = table-lists bs t told in
        let lent : ChargeSays (list_of Task l.rows) (list_of Handler l.rows) q a =
        subst (λ (s : List ℕ). ChargeSays s (list_of Handler l.rows) q a) (tasks ∙ l.tasks)
        (subst (λ (s : List ℕ). ChargeSays ts s q a) (handlers ∙ l.handlers) says) in
        inr (inside, inl (l.rows, l.says, subst (λ (b : Bool). AnswerIn b (list_of Task l.rows) (list_of Handler l.rows) q a) (sym l.placed) lent))

  -- The figures of such an answer are the file's.
  pub answers-figures : (a : Result Charged Refusal) (g : Figures) → FileAnswers bs q a → g ≡ figures a → FileCharged bs q g
  unfolding FileAnswers FileCharged
  answers-figures a g (inl out) e = inl (out.0, e ∙ ap figures out.1)
  answers-figures a g (inr told) e = inr (told.0, go told.1)
    where
      go : ((es : List Entry) × FileSays bs es × AnswerIn (misplaced es) (list_of Task es) (list_of Handler es) q a)
          ⊎ (SaysNothing bs × (a ≡ Err FileMalformed)) → FileTold bs q g
      go (inl f) = inl (f.0, f.1, record { answer = a; says = f.2; told = e })
      go (inr n) = inr (n.0, e ∙ ap figures n.1)

-- ---- and nothing else is allowed

answer-unique : (m : Bool) (t h : List ℕ) (q : ℕ) (a b : Result Charged Refusal) → AnswerIn m t h q a → AnswerIn m t h q b → a ≡ b
unfolding AnswerIn
answer-unique true t h q a b x y = x ∙ sym y
answer-unique false t h q a b x y = charge-unique t h q a b x y

told-unique : (bs : List ℕ) (q : ℕ) (f g : Figures) → FileTold bs q f → FileTold bs q g → f ≡ g
told-unique bs q f g (inl a) (inl b) =
    let es = a.0 in
    let other : Answered es q g = subst (λ (s : List Entry). Answered s q g) (says-unique bs b.0 es b.1 a.1) b.2 in
    let same : a.2.answer ≡ other.answer =
    answer-unique (misplaced es) (list_of Task es) (list_of Handler es) q a.2.answer other.answer a.2.says other.says in
    a.2.told ∙ ap figures same ∙ sym other.told
told-unique bs q f g (inl a) (inr b) = absurd (b.0 a.0 a.1)
told-unique bs q f g (inr a) (inl b) = absurd (a.0 b.0 b.1)
told-unique bs q f g (inr a) (inr b) = a.1 ∙ sym b.1

pub one-charge : OneCharge
unfolding FileCharged
one-charge bs q f g (inl x) (inl y) = x.1 ∙ sym y.1
one-charge bs q f g (inl x) (inr y) = absurd (true≢false (sym x.0 ∙ y.0))
one-charge bs q f g (inr x) (inl y) = absurd (true≢false (sym y.0 ∙ x.0))
one-charge bs q f g (inr x) (inr y) = told-unique bs q f g x.1 y.1
