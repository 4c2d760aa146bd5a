-- Two tables that are refused alike get the same answers: a promise about one is a promise about the other.
use mathlib.Core.List.{List, [], ◌∷◌}
use mathlib.Core.Path.{◌≡◌, sym, ap, ◌∙◌, subst}
use native.Mathlib.Omega.{arith}
use Prim.Native.Nat.{ℕ, ◌<◌}
use lib.Dec.{ltb}
use Rattle.std.specs.Prelude.{Result, Err}
use Rattle.columns.specs.Held.{Alike}
use Rattle.demand.specs.Answers.{DemandSays, HandlerSays, MarginSays}
use Rattle.demand.specs.Limits.{ticks_most}
use Rattle.demand.specs.Numbered.{number_of, refusal_at, answered}
use Rattle.demand.specs.Refusals.{table_refusal, asked_refusal}
use Rattle.demand.specs.Rows.{Row}
use Rattle.demand.specs.declared.Share.{Share}
use Rattle.demand.specs.declared.Spare.{Spare}
use Rattle.demand.specs.declared.refusal.Refusal.{Refusal}
use Rattle.demand.proofs.Answers.{demand-refused, handler-refused, margin-refused}
use Rattle.demand.proofs.Numbered.{answered-refused}
use Rattle.demand.proofs.Refusals.{table-refusal, table-number}
use Rattle.priority.specs.Answers.{ResponsesSay}
use Rattle.priority.proofs.Answers.{refused_says, responses-unique}
use Rattle.trim.specs.Promise.{TrimSays}
use Rattle.trim.specs.declared.Cut.{Cut}
use Rattle.trim.proofs.Answers as answers
use Rattle.trim.proofs.Answers.{trim-unique}
use Rattle.verdict.specs.Promise.{VerdictSays}
use Rattle.verdict.specs.declared.Answer.{Answer}
use Rattle.verdict.proofs.Sayings.{says-refused}
use Rattle.verdict.proofs.Promise.{verdict-unique}

module _ (t h t' h' : List ℕ) (alike : Alike t h t' h') where
  -- The refusal of both.
  abbrev refusal : Refusal
  refusal = refusal_at (table_refusal t h)

  here : number_of refusal ≡ table_refusal t h
  here = table-number t h alike.some

  there : number_of refusal ≡ table_refusal t' h'
  there = here ∙ alike.same

  -- What is asked about the table comes after its own number.
  asked-here : (l : ℕ) → asked_refusal t h l ≡ table_refusal t h
  unfolding asked_refusal
  asked-here l = table-refusal t h ((5, ltb ticks_most l) ∷ []) alike.some

  asked-there : (l : ℕ) → number_of refusal ≡ asked_refusal t' h' l
  unfolding asked_refusal
  asked-there l = there ∙ sym (table-refusal t' h' ((5, ltb ticks_most l) ∷ []) (omega (arith, alike.same, alike.some)))

  refused-here : {A : Type 0} (l : ℕ) (a : A) (r : Result A Refusal) → r ≡ answered (asked_refusal t h l) a → r ≡ Err refusal
  refused-here l a r e = e ∙ ap (λ (k : ℕ). answered k a) (asked-here l) ∙ answered-refused (table_refusal t h) a alike.some

  pub demand-alike : (l n n' : ℕ) (r : Result ℕ Refusal) → DemandSays (asked_refusal t h l) n r → DemandSays (asked_refusal t' h' l) n' r
  demand-alike l n n' r says =
      subst (DemandSays (asked_refusal t' h' l) n') (sym (refused-here l _ r says.answer))
      (demand-refused (asked_refusal t' h' l) n' refusal (asked-there l))

  pub handler-alike : (hs hs' : List Row) (l : ℕ) (r : Result Share Refusal) → HandlerSays (asked_refusal t h l) hs l r
      → HandlerSays (asked_refusal t' h' l) hs' l r
  handler-alike hs hs' l r says =
      subst (HandlerSays (asked_refusal t' h' l) hs' l) (sym (refused-here l _ r says.answer))
      (handler-refused (asked_refusal t' h' l) hs' l refusal (asked-there l))

  pub margin-alike : (ts hs ts' hs' : List Row) (l : ℕ) (r : Result Spare Refusal) → MarginSays (asked_refusal t h l) ts hs l r
      → MarginSays (asked_refusal t' h' l) ts' hs' l r
  margin-alike ts hs ts' hs' l r says =
      subst (MarginSays (asked_refusal t' h' l) ts' hs' l) (sym (refused-here l _ r says.answer))
      (margin-refused (asked_refusal t' h' l) ts' hs' l refusal (asked-there l))

  pub verdict-alike : (r : Result Answer Refusal) → VerdictSays t h r → VerdictSays t' h' r
  verdict-alike r says =
      let is = verdict-unique t h r (Err refusal) says (says-refused t h refusal here) in
      subst (VerdictSays t' h') (sym is) (says-refused t' h' refusal there)

  pub responses-alike : (r : Result (List ℕ) Refusal) → ResponsesSay t h r → ResponsesSay t' h' r
  responses-alike r says =
      let is = responses-unique t h r (Err refusal) says (refused_says t h refusal here) in
      subst (ResponsesSay t' h') (sym is) (refused_says t' h' refusal there)

  pub trim-alike : (i : ℕ) (r : Result Cut Refusal) → TrimSays t h i r → TrimSays t' h' i r
  trim-alike i r says =
      let is = trim-unique t h i r (Err refusal) says (answers.says-refused t h i refusal (says-refused t h refusal here)) in
      subst (TrimSays t' h' i) (sym is) (answers.says-refused t' h' i refusal (says-refused t' h' refusal there))
