-- The sheet that the reader keeps says what the page says of its guards.
--   Kept s hs   s is the sheet of the guards hs, as they are handed to the call: their count, the first refusal and, where there is none,
-- their rows
use mathlib.Core.Bool.{Bool, true, false}
use mathlib.Core.List.{List, [], ◌∷◌, ◌++◌, append-nil, append_assoc}
use mathlib.Core.Logic.{◌⊎◌, inl, inr}
use mathlib.Core.Path.{◌≡◌, refl, sym, ap, ◌∙◌}
use native.Mathlib.Omega.{arith}
use Prim.Native.Nat.{ℕ, suc, ◌+◌, ◌≤◌, ◌<◌, min}
use borrow.Author.Tests.{lt-ltb, le-ltb, ltb-true, ltb-false, eqb-true, eqb-false, eq-eqb, ne_eqb}
use lib.Dec.{eqb, ltb}
use lib.ListN.{length, length-append, length-replicate}
use Rattle.std.specs.Prelude.{Option, Some, None, Ok, Err}
use Rattle.demand.specs.Numbered.{number_of, refusal_at, answered}
use Rattle.demand.specs.Tests.{pick}
use Rattle.demand.specs.declared.refusal.Refusal as demand
use Rattle.demand.proofs.Numbered.{number-pos}
use Rattle.demand.proofs.Divide.{le-or-lt}
use Rattle.guard_file.specs.Inside.Handed.{handed, all_handed}
use Rattle.guard_file.specs.Inside.Building.{guards_held, bare, stored, told_first, answer_of, counted, pushed_by, pushed_behind, pushed, grown, sheet_of}
use Rattle.guard_file.specs.Inside.Pages.{guard_lines_by, lines_up_to, refusal_in, lines_of}
use Rattle.guard_file.specs.Page.{guard_lines, all_lines, rows_heading, rows_text, refused_text, Refusal, refusal, first_refused, refusal_of, lines_by}
use Rattle.guard_file.specs.declared.reader.Refused.{Refused}
use Rattle.guard_file.specs.declared.reader.Sheet.{Sheet}
use Rattle.guards.specs.Guards.{guard_refusal, interrupt_cost, timer_cost, gap_of, burst_outside, rows_outside}
use Rattle.guards.specs.declared.Pair.{Pair}
use Rattle.guards.proofs.Answers.{refusal_is}
use Rattle.guards.specs.declared.Guard.{Guard}
use Rattle.text.proofs.Tests.{by}
use Rattle.guard_file.proofs.Stored.{first-none, first_some, lines-append, stored-long, lines_stored}

-- the costs of a guard's rows, and their period
abbrev rows_of : Guard → Pair
rows_of g = record { interrupt = interrupt_cost g; timer = timer_cost g; period = gap_of g }

-- The refusal of a guard has its number.
guard-number : (g : Guard) → (guard_refusal g ≡ 0 → ⊥) → number_of (refusal_at (guard_refusal g)) ≡ guard_refusal g
guard-number g bad = go (burst_outside g) (rows_outside (interrupt_cost g) (timer_cost g) (gap_of g)) (refusal_is g)
  where
    go : (b r : Bool) → guard_refusal g ≡ pick b 14 (pick r 3 0) → number_of (refusal_at (guard_refusal g)) ≡ guard_refusal g
    go true r e = rw e refl
    go false true e = rw e refl
    go false false e = absurd (bad e)

-- ---- one guard more

pub record Kept (s : Sheet) (hs : List Guard) : Type 0 where
  pub long : length s.numbers ≡ 24
  pub count : s.count ≡ min (length hs) 9
  pub first : length hs ≤ guards_held → told_first s.first ≡ first_refused 0 hs
  pub rows : length hs ≤ guards_held → (told_first s.first).number ≡ 0 → lines_up_to s.numbers (length hs) ≡ all_lines hs

module _ (s : Sheet) (hs : List Guard) (g : Guard) (k : Kept s hs) where
  abbrev more : List Guard
  more = hs ++ (g ∷ [])

  one_more : length more ≡ length hs + 1
  one_more = length-append hs (g ∷ [])

  -- past the last that is kept
  past : guards_held ≤ length hs → Kept (counted s (guards_held + 1)) more
  past h = record {
    long = k.long;
    count = omega (arith, one_more, h);
    first = λ few. absurd (omega (arith, one_more));
    rows = λ few. absurd (omega (arith, one_more));
  }

  module _ (room : length hs < guards_held) where
    at_place : s.count ≡ length hs
    at_place = omega (arith, k.count, room)

    was : told_first s.first ≡ first_refused 0 hs
    was = k.first (omega arith)

    number-was : (told_first s.first).number ≡ (first_refused 0 hs).number
    number-was = ap (λ (r : Refusal). r.number) was

    -- behind a refused one
    refused-before : 0 < (told_first s.first).number → Kept (counted s (s.count + 1)) more
    refused-before some = record {
      long = k.long;
      count = omega (arith, at_place, one_more, room);
      first = λ few. was ∙ sym (first_some 0 hs g (omega (arith, number-was, some)));
      rows = λ few none. absurd (omega (arith, some, none));
    }

    module _ (none : (told_first s.first).number ≡ 0) where
      last-told : first_refused 0 more ≡ pick (eqb (guard_refusal g) 0) (refusal 0 0) (refusal (guard_refusal g) (length hs))
      last-told =
          let here : 0 + length hs ≡ length hs = omega arith in
          first-none 0 hs g (sym number-was ∙ none) ∙ ap (λ (n : ℕ). first_refused n (g ∷ [])) here

      nowhere : (told_first s.first).place ≡ 0
      nowhere = ap (λ (r : Refusal). r.place) was ∙ none-nowhere 0 hs (sym number-was ∙ none)
        where
          none-nowhere : (i : ℕ) (xs : List Guard) → (first_refused i xs).number ≡ 0 → (first_refused i xs).place ≡ 0
          none-nowhere i [] e = refl
          none-nowhere i (x ∷ xs) e =
              by (λ t. eqb (guard_refusal x) 0 ≡ t → (pick t (first_refused (suc i) xs) (refusal (guard_refusal x) i)).number ≡ 0
              → (pick t (first_refused (suc i) xs) (refusal (guard_refusal x) i)).place ≡ 0)
              (eqb (guard_refusal x) 0)
              (λ _. λ _. λ f. none-nowhere (suc i) xs f)
              (λ _. λ t. λ f. absurd (eqb-false (guard_refusal x) 0 t f))
              refl e

      rows-printed : lines_up_to (stored s.numbers s.count (interrupt_cost g) (timer_cost g) (gap_of g)) (length more) ≡ all_lines more
      unfolding guard_lines_by
      rows-printed =
          let longer : length more ≡ suc (length hs) = omega (arith, one_more) in
          rw (at_place, longer)
          (lines_stored s.numbers (length hs) (interrupt_cost g) (timer_cost g) (gap_of g) (omega (arith, k.long, room))
          ∙ ap (λ (z : List ℕ). z ++ guard_lines g) (k.rows (omega arith) none)
          ∙ sym (lines-append hs g))

      -- its rows are stored,
      rows-kept : guard_refusal g ≡ 0 → Kept (pushed_by s (Ok (rows_of g))) more
      rows-kept fine = record {
        long = stored-long s.numbers s.count (interrupt_cost g) (timer_cost g) (gap_of g) ∙ k.long;
        count = omega (arith, at_place, one_more, room);
        first =
            λ few. (λ i. refusal (none i) (nowhere i))
            ∙ sym (last-told ∙ ap (λ (t : Bool). pick t (refusal 0 0) (refusal (guard_refusal g) (length hs)))
            (eq-eqb (guard_refusal g) 0 fine));
        rows = λ few _. rows-printed;
      }

      -- or it is the first that is refused.
      refused-kept : (guard_refusal g ≡ 0 → ⊥) → (e : demand.Refusal) → number_of e ≡ guard_refusal g → Kept (pushed_by s (Err e)) more
      refused-kept bad e number = record {
        long = k.long;
        count = omega (arith, at_place, one_more, room);
        first = λ few.
            (λ i. refusal (number i) (at_place i))
            ∙ sym (last-told ∙ ap (λ (t : Bool). pick t (refusal 0 0) (refusal (guard_refusal g) (length hs)))
            (ne_eqb (guard_refusal g) 0 bad));
        rows = λ few zero. absurd (bad (sym number ∙ zero));
      }

      answer-kept : Kept (pushed_by s (answer_of g)) more
      unfolding answered
      answer-kept =
          by (λ t. eqb (guard_refusal g) 0 ≡ t → Kept
          (pushed_by s (pick t (Ok (rows_of g)) (Err (refusal_at (guard_refusal g))))) more)
          (eqb (guard_refusal g) 0)
          (λ _. λ t. rows-kept (eqb-true (guard_refusal g) 0 t))
          (λ _. λ t. refused-kept (eqb-false (guard_refusal g) 0 t) (refusal_at (guard_refusal g)) (guard-number g (eqb-false (guard_refusal g) 0 t)))
          refl

    behind-kept : (f : Option Refused) → s.first ≡ f → Kept (pushed_behind f s g) more
    behind-kept None e = answer-kept (ap (λ (x : Option Refused). (told_first x).number) e)
    behind-kept (Some f) e =
        refused-before (omega (arith, number-pos f.refusal, ap (λ (x : Option Refused). (told_first x).number) e))

  pub pushed-kept : Kept (pushed s g) more
  pushed-kept =
      by (λ t. ltb s.count guards_held ≡ t → Kept (pick t (pushed_behind s.first s g) (counted s (guards_held + 1))) more)
      (ltb s.count guards_held)
      (λ _. λ t. behind-kept (omega (arith, ltb-true s.count guards_held t, k.count)) s.first refl)
      (λ _. λ t. past (omega (arith, ltb-false s.count guards_held t, k.count)))
      refl

bare-kept : Kept bare []
unfolding lines_up_to
bare-kept = record { long = length-replicate {A = ℕ} 24 0; count = omega arith; first = λ _. refl; rows = λ _ _. refl }

grown-kept : (s : Sheet) (hs gs : List Guard) → Kept s hs → Kept (grown s gs) (hs ++ all_handed gs)
grown-kept s hs [] k = rw append-nil k
grown-kept s hs (g ∷ gs) k =
    rw append_assoc at (grown-kept (pushed s (handed g)) (hs ++ (handed g ∷ [])) gs (pushed-kept s hs (handed g) k))

pub sheet-kept : (gs : List Guard) → Kept (sheet_of gs) (all_handed gs)
sheet-kept gs = grown-kept bare [] gs bare-kept

-- ---- so its refusal and its lines are those of the guards

module _ (s : Sheet) (hs : List Guard) (k : Kept s hs) where
  refusal-many : guards_held < length hs → refusal_in (Ok s) ≡ refusal 2 0
  refusal-many h = ap (λ (t : Bool). pick t (refusal 2 0) (told_first s.first)) (lt-ltb guards_held s.count (omega (arith, k.count, h)))

  refusal-few : length hs ≤ guards_held → refusal_in (Ok s) ≡ told_first s.first
  refusal-few h = ap (λ (t : Bool). pick t (refusal 2 0) (told_first s.first)) (le-ltb guards_held s.count (omega (arith, k.count, h)))

  pub kept-refusal : refusal_in (Ok s) ≡ refusal_of hs
  kept-refusal = go (le-or-lt (length hs) guards_held)
    where
      go : (length hs ≤ guards_held) ⊎ (guards_held < length hs) → refusal_in (Ok s) ≡ refusal_of hs
      go (inl h) =
          refusal-few h ∙ k.first h ∙ sym (ap (λ (t : Bool). pick t (refusal 2 0) (first_refused 0 hs)) (le-ltb guards_held (length hs) h))
      go (inr h) = refusal-many h ∙ sym (ap (λ (t : Bool). pick t (refusal 2 0) (first_refused 0 hs)) (lt-ltb guards_held (length hs) h))

  -- Where there is no refusal its rows are theirs.
  kept-rows : (refusal_in (Ok s)).number ≡ 0 → lines_up_to s.numbers s.count ≡ all_lines hs
  kept-rows none = go (le-or-lt (length hs) guards_held)
    where
      go : (length hs ≤ guards_held) ⊎ (guards_held < length hs) → lines_up_to s.numbers s.count ≡ all_lines hs
      go (inl h) =
          let all : s.count ≡ length hs = omega (arith, k.count, h) in
          ap (lines_up_to s.numbers) all ∙ k.rows h (sym (ap (λ (r : Refusal). r.number) (refusal-few h)) ∙ none)
      go (inr h) =
          let two : ◌≡◌ {A = ℕ} 2 0 = sym (ap (λ (r : Refusal). r.number) (refusal-many h)) ∙ none in
          absurd (omega arith)

  pub kept-lines : lines_of s ≡ lines_by (refusal_of hs) hs
  kept-lines =
      by (λ t. eqb (refusal_in (Ok s)).number 0 ≡ t
      → pick t (rows_heading ++ lines_up_to s.numbers s.count) (refused_text (refusal_in (Ok s)).number (refusal_in (Ok s)).place)
      ≡ pick t (rows_text hs) (refused_text (refusal_in (Ok s)).number (refusal_in (Ok s)).place))
      (eqb (refusal_in (Ok s)).number 0)
      (λ _. λ t. ap (λ (z : List ℕ). rows_heading ++ z) (kept-rows (eqb-true (refusal_in (Ok s)).number 0 t)))
      (λ _. λ t. refl)
      refl
      ∙ ap (λ (r : Refusal). lines_by r hs) kept-refusal
