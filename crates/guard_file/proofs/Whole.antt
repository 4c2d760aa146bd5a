-- The whole: what is written meets the promise, and the promise allows no other.
use mathlib.Core.Bool.{Bool}
use mathlib.Core.List.{List, ◌++◌}
use mathlib.Core.Logic.{inl, inr}
use mathlib.Core.Path.{◌≡◌, refl, sym, ap, subst, ◌∙◌}
use native.Mathlib.Omega.{arith}
use Prim.Native.Nat.{ℕ, ◌≤◌, ◌<◌}
use borrow.Author.Tests.{eq-eqb, ne_eqb, lt-ltb, le-ltb}
use lib.Dec.{eqb}
use lib.ListN.{length}
use Rattle.std.specs.Prelude.{Option, Some, None, Result, Ok, Err}
use Rattle.demand.specs.declared.refusal.Refusal as demand
use Rattle.demand.specs.declared.refusal.Refusal.TheVariants.{Miscounted}
use Rattle.demand.specs.Numbered.{number_of}
use Rattle.demand.specs.Tests.{pick}
use Rattle.demand.proofs.Numbered.{number-pos}
use Rattle.guard_file.specs.Inside.Handed.{all_handed}
use Rattle.guard_file.specs.Inside.Building.{guards_held, told_first, sheet_of, outcome, sheet_for}
use Rattle.guard_file.specs.Inside.Pages.{lines_up_to, refusal_in, lines_of, Written}
use Rattle.guard_file.specs.Page as told
use Rattle.guard_file.specs.Page.{rows_heading, refused_text, Refusal, refusal, Told, told_of, broken, FileTold, laid, PageSays, OnePage}
use Rattle.guard_file.specs.declared.Output.{Output}
use Rattle.guard_file.specs.declared.reader.Refused.{Refused}
use Rattle.guard_file.specs.declared.reader.Sheet.{Sheet}
use Rattle.text.specs.Reasons.{reason}
use Rattle.guards.specs.declared.Guard.{Guard}
use Rattle.guard_file.proofs.File.{never, sound, complete, says-unique}
use Rattle.text.proofs.Reasons.{reason-none, reason-some}
use Rattle.guard_file.proofs.Handed.{refusal-handed, lines-handed}
use Rattle.guard_file.proofs.Sheets.{sheet-kept, kept-refusal, kept-lines}

-- ---- on the page

module _ (s : Sheet) (page page' : List ℕ) (out : Output) where
  -- A refusal,
  refused-page : (e : demand.Refusal) (i : ℕ) → refusal_in (Ok s) ≡ refusal (number_of e) i
      → (page' ≡ laid page 0 (refused_text (number_of e) i)) × (out.len ≡ length (refused_text (number_of e) i)) × (out.refusal ≡ Some e)
      → Written (Ok s) page page' out
  refused-page e i is told =
      let number : (refusal_in (Ok s)).number ≡ number_of e = ap (λ (r : Refusal). r.number) is in
      let lines : lines_of s ≡ refused_text (number_of e) i =
      ap (λ (r : Refusal). pick (eqb r.number 0) (rows_heading ++ lines_up_to s.numbers s.count) (refused_text r.number r.place)) is
      ∙ ap (λ (t : Bool). pick t (rows_heading ++ lines_up_to s.numbers s.count) (refused_text (number_of e) i))
      (ne_eqb (number_of e) 0 (λ z. omega (arith, number-pos e))) in
      record {
        written = told.0 ∙ ap (laid page 0) (sym lines);
        counted = told.1 ∙ ap length (sym lines);
        refusal = told.2 ∙ reason-some e ∙ ap reason (sym number);
      }

  -- 2,
  pub many-page : guards_held < s.count
      → (page' ≡ laid page 0 (refused_text 2 0)) × (out.len ≡ length (refused_text 2 0)) × (out.refusal ≡ Some Miscounted) → Written (Ok s) page page' out
  many-page many told =
      refused-page Miscounted 0 (ap (λ (t : Bool). pick t (refusal 2 0) (told_first s.first)) (lt-ltb guards_held s.count many)) told

  module _ (few : s.count ≤ guards_held) where
    few-told : refusal_in (Ok s) ≡ told_first s.first
    few-told = ap (λ (t : Bool). pick t (refusal 2 0) (told_first s.first)) (le-ltb guards_held s.count few)

    -- that of a guard,
    pub guard-page : (f : Refused) → s.first ≡ Some f
        → (page' ≡ laid page 0 (refused_text (number_of f.refusal) f.place)) × (out.len ≡ length (refused_text (number_of f.refusal) f.place)) ×
        (out.refusal ≡ Some f.refusal)
        → Written (Ok s) page page' out
    guard-page f e told = refused-page f.refusal f.place (few-told ∙ ap told_first e) told

    -- or the rows.
    pub rows-page : s.first ≡ None
        → (out.len ≡ length (rows_heading ++ lines_up_to s.numbers s.count)) ×
        (page' ≡ laid page 0 (rows_heading ++ lines_up_to s.numbers s.count))
        → out.refusal ≡ None → Written (Ok s) page page' out
    rows-page none told nothing =
        let number : (refusal_in (Ok s)).number ≡ 0 = ap (λ (r : Refusal). r.number) (few-told ∙ ap told_first none) in
        let lines : lines_of s ≡ rows_heading ++ lines_up_to s.numbers s.count =
        ap (λ (t : Bool). pick t (rows_heading ++ lines_up_to s.numbers s.count) (refused_text (refusal_in (Ok s)).number (refusal_in (Ok s)).place))
        (eq-eqb (refusal_in (Ok s)).number 0 number) in
        record {
          written = told.1 ∙ ap (laid page 0) (sym lines);
          counted = told.0 ∙ ap length (sym lines);
          refusal = nothing ∙ reason-none ∙ ap reason (sym number);
        }

-- What was read, whole or not.
pub sheet-page : (r : Result Sheet demand.Refusal) (s : Sheet) (page page' : List ℕ) (out : Output) → r ≡ Ok s → Written (Ok s) page page' out
    → Written r page page' out
sheet-page r s page page' out is w = subst (λ (x : Result Sheet demand.Refusal). Written x page page' out) (sym is) w

pub broken-page : (r : Result Sheet demand.Refusal) (e : demand.Refusal) (page page' : List ℕ) (out : Output) → r ≡ Err e
    → (page' ≡ laid page 0 (refused_text (number_of e) 0)) × (out.len ≡ length (refused_text (number_of e) 0)) × (out.refusal ≡ Some e)
    → Written r page page' out
broken-page r e page page' out is told =
    subst (λ (x : Result Sheet demand.Refusal). Written x page page' out) (sym is)
    (record { written = told.0; counted = told.1; refusal = told.2 ∙ reason-some e })

-- ---- the output meets the promise

module _ (bs page page' : List ℕ) (out : Output) where
  told-of : (o : Option (List Guard)) → outcome bs ≡ o → Written (sheet_for o) page page' out → PageSays bs page page' out
  told-of None e w = record {
    told = broken;
    figures = inr ((λ gs s. never ⊥ gs (sym e ∙ complete bs gs s)), refl);
    written = w.written;
    counted = w.counted;
    refusal = w.refusal;
  }
  told-of (Some gs) e w =
      let hs = all_handed gs in
      let kept = sheet-kept gs in
      let lines : lines_of (sheet_of gs) ≡ told.lines_of (told_of gs) = kept-lines (sheet_of gs) hs kept ∙ lines-handed gs in
      record {
        told = told_of gs;
        figures = inl (gs, sound bs gs e, refl);
        written = w.written ∙ ap (laid page 0) lines;
        counted = w.counted ∙ ap length lines;
        refusal = w.refusal ∙ ap (λ (r : Refusal). reason r.number) (kept-refusal (sheet_of gs) hs kept ∙ refusal-handed gs);
      }

  pub page-says : (r : Result Sheet demand.Refusal) → r ≡ sheet_for (outcome bs) → Written r page page' out → PageSays bs page page' out
  page-says r e w = told-of (outcome bs) refl (subst (λ (x : Result Sheet demand.Refusal). Written x page page' out) e w)

-- ---- and no other does

pub told-unique : (bs : List ℕ) (a b : Told) → FileTold bs a → FileTold bs b → a ≡ b
told-unique bs a b (inl x) (inl y) =
    x.2 ∙ ap told_of (says-unique bs x.0 y.0 x.1 y.1) ∙ sym y.2
told-unique bs a b (inl x) (inr y) = absurd (y.0 x.0 x.1)
told-unique bs a b (inr x) (inl y) = absurd (x.0 y.0 y.1)
told-unique bs a b (inr x) (inr y) = x.1 ∙ sym y.1

pub page-unique : OnePage
page-unique bs page a b x y s t =
    let same : s.told ≡ t.told = told-unique bs s.told t.told s.figures t.figures in
    let len : x.len ≡ y.len = s.counted ∙ ap (λ (z : Told). length (told.lines_of z)) same ∙ sym t.counted in
    let refusal : x.refusal ≡ y.refusal = s.refusal ∙ ap (λ (z : Told). reason z.refused.number) same ∙ sym t.refusal in
    (s.written ∙ ap (λ (z : Told). laid page 0 (told.lines_of z)) same ∙ sym t.written, λ i. record { len = len i; refusal = refusal i })
