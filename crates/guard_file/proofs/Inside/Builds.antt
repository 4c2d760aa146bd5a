-- What the reader keeps is the sheet of the guards read whole.
use mathlib.Core.Bool.{Bool, true, false}
use mathlib.Core.List.{List, [], ◌∷◌, ◌++◌}
use mathlib.Core.Path.{◌≡◌, refl, sym, ap, ◌∙◌}
use native.Mathlib.Numerals.{add-one}
use Prim.Native.Nat.{ℕ, ◌+◌, ◌≤◌, ◌<◌}
use borrow.Author.Tests.{lt-ltb, le-ltb}
use lib.ListN.{length, take, get_or}
use lib.Seq.{take-suc, take_all}
use Rattle.demand.specs.Tests.{pick}
use Rattle.guard_file.specs.File.{file_most}
use Rattle.guard_file.specs.Inside.Handed.{handed}
use Rattle.std.specs.Prelude.{Some, None, Result, Ok, Err}
use Rattle.demand.specs.declared.refusal.Refusal as demand
use Rattle.demand.specs.declared.refusal.Refusal.TheVariants.{FileMalformed}
use Rattle.guard_file.specs.Inside.Building.{bare, pushed, grown, sheet_of, added, fed, sheet_at_end, Reading, next, read_from, read_over, unread, guards_at_end, outcome, sheet_for}
use Rattle.guard_file.specs.Inside.Steps.{after_byte, is_start, noted}
use Rattle.guard_file.specs.declared.reader.Sheet.{Sheet}
use Rattle.guard_file.specs.declared.steps.State.{State}
use Rattle.guards.specs.declared.Guard.{Guard}
use Rattle.text.specs.Ascii.{crlf}
use Rattle.text.proofs.Tests.{by}

-- ---- one behind the other

pub grown-append : (s : Sheet) (gs hs : List Guard) → grown s (gs ++ hs) ≡ grown (grown s gs) hs
grown-append s [] hs = refl
grown-append s (g ∷ gs) hs = grown-append (pushed s (handed g)) gs hs

pub read-append : (w : Reading) (xs ys : List ℕ) → read_from w (xs ++ ys) ≡ read_from (read_from w xs) ys
read-append w [] ys = refl
read-append w (x ∷ xs) ys = read-append (next w x) xs ys

-- ---- the end of the file: the last line lacked its CRLF, or did not, or is broken

module _ (s : Sheet) (st : State) (values : List ℕ) (cr lf : State) where
  at-end : cr ≡ after_byte st 13 → lf ≡ after_byte cr 10 → is_start (after_byte (after_byte st 13) 10) ≡ is_start lf
  at-end first then = sym (ap is_start (then ∙ ap (λ (x : State). after_byte x 10) first))

  pub at-end-short : (row : List ℕ) (r : Result Sheet demand.Refusal) → cr ≡ after_byte st 13 → lf ≡ after_byte cr 10 → is_start lf ≡ true
      → row ≡ noted cr values → r ≡ Ok (fed s cr row 10) → r ≡ sheet_at_end s st values
  at-end-short row r first then e is f =
      f ∙ ap (λ (xs : List ℕ). Ok (fed s cr xs 10)) is ∙ ap (λ (x : State). Ok (fed s x (noted x values) 10)) first
      ∙ sym (ap (λ (b : Bool). pick b (Ok (fed s (after_byte st 13) (noted (after_byte st 13) values) 10)) (pick (is_start st) (Ok s) (Err FileMalformed)))
      (at-end first then ∙ e))

  full : cr ≡ after_byte st 13 → lf ≡ after_byte cr 10 → is_start lf ≡ false → sheet_at_end s st values ≡ pick (is_start st) (Ok s) (Err FileMalformed)
  full first then e =
      ap (λ (b : Bool). pick b (Ok (fed s (after_byte st 13) (noted (after_byte st 13) values) 10)) (pick (is_start st) (Ok s) (Err FileMalformed)))
      (at-end first then ∙ e)

  pub at-end-full : cr ≡ after_byte st 13 → lf ≡ after_byte cr 10 → is_start lf ≡ false → is_start st ≡ true → Ok s ≡ sheet_at_end s st values
  at-end-full first then e f = sym (full first then e ∙ ap (λ (b : Bool). pick b (Ok s) (Err FileMalformed)) f)

  pub at-end-broken : (r : Result Sheet demand.Refusal) → cr ≡ after_byte st 13 → lf ≡ after_byte cr 10 → is_start lf ≡ false → is_start st ≡ false → r ≡ Err FileMalformed
      → r ≡ sheet_at_end s st values
  at-end-broken r first then e f is = is ∙ sym (full first then e ∙ ap (λ (b : Bool). pick b (Ok s) (Err FileMalformed)) f)

-- The sheet at the end is that of the guards at the end.
sheet-at-end : (w : Reading) → sheet_at_end (sheet_of w.guards) w.st w.values ≡ sheet_for (guards_at_end w)
sheet-at-end w =
    by (λ t. pick t (Ok (fed (sheet_of w.guards) (after_byte w.st 13) (noted (after_byte w.st 13) w.values) 10))
    (pick (is_start w.st) (Ok (sheet_of w.guards)) (Err FileMalformed))
    ≡ sheet_for (pick t (Some (read_from w crlf).guards) (pick (is_start w.st) (Some w.guards) None)))
    (is_start (after_byte (after_byte w.st 13) 10))
    (λ _. ap Ok (sym (grown-append bare (w.guards ++ []) (added (after_byte w.st 13) (noted (after_byte w.st 13) w.values) 10)
    ∙ ap (λ (x : Sheet). fed x (after_byte w.st 13) (noted (after_byte w.st 13) w.values) 10)
    (grown-append bare w.guards []))))
    (λ _. by (λ t. pick t (Ok (sheet_of w.guards)) (Err FileMalformed) ≡ sheet_for (pick t (Some w.guards) None)) (is_start w.st) (λ _. refl)
    (λ _. refl))

-- ---- the reader's loop: before the byte at i it stands where the reading over the first i bytes does

module _ (bs : List ℕ) (i : ℕ) where
  read_take : i < length bs → read_over (take (i + 1) bs) ≡ next (read_over (take i bs)) (get_or bs i 0)
  read_take h =
      ap (λ (n : ℕ). read_over (take n bs)) (add-one i) ∙ ap read_over (take-suc bs i 0 h) ∙ read-append unread (take i bs) (get_or bs i 0 ∷ [])

  pub loop-state : (st : State) → i < length bs → st ≡ (read_over (take i bs)).st
      → after_byte st (get_or bs i 0) ≡ (read_over (take (i + 1) bs)).st
  loop-state st h e = ap (λ (x : State). after_byte x (get_or bs i 0)) e ∙ sym (ap (λ (w : Reading). w.st) (read_take h))

  pub loop-values : (row : List ℕ) (st : State) (r : List ℕ) → i < length bs → row ≡ (read_over (take i bs)).values
      → st ≡ (read_over (take (i + 1) bs)).st → r ≡ noted st row → r ≡ (read_over (take (i + 1) bs)).values
  loop-values row st r h is e f =
      f ∙ ap (noted st) is
      ∙ ap (λ (x : State). noted x (read_over (take i bs)).values) (e ∙ ap (λ (w : Reading). w.st) (read_take h))
      ∙ sym (ap (λ (w : Reading). w.values) (read_take h))

  pub loop-sheet : (s : Sheet) (st : State) (row : List ℕ) → i < length bs → st ≡ (read_over (take i bs)).st
      → row ≡ (read_over (take i bs)).values
      → s ≡ sheet_of (read_over (take i bs)).guards → fed s st row (get_or bs i 0) ≡ sheet_of (read_over (take (i + 1) bs)).guards
  loop-sheet s st row h e is f =
      let before = read_over (take i bs) in
      let b = get_or bs i 0 in
      ap (λ (x : State). fed s x row b) e ∙ ap (λ (xs : List ℕ). fed s before.st xs b) is
      ∙ ap (λ (x : Sheet). fed x before.st before.values b) f
      ∙ sym (grown-append bare before.guards (added before.st before.values b))
      ∙ sym (ap (λ (w : Reading). sheet_of w.guards) (read_take h))

  pub loop-ends : (s : Sheet) (st : State) (row : List ℕ) → length bs ≤ file_most → length bs ≤ i → st ≡ (read_over (take i bs)).st
      → row ≡ (read_over (take i bs)).values → s ≡ sheet_of (read_over (take i bs)).guards → sheet_at_end s st row ≡ sheet_for (outcome bs)
  loop-ends s st row small h e is f =
      ap (λ (x : State). sheet_at_end s x row) e ∙ ap (λ (xs : List ℕ). sheet_at_end s (read_over (take i bs)).st xs) is
      ∙ ap (λ (x : Sheet). sheet_at_end x (read_over (take i bs)).st (read_over (take i bs)).values) f
      ∙ sheet-at-end (read_over (take i bs))
      ∙ ap (λ (xs : List ℕ). sheet_for (guards_at_end (read_over xs))) (take_all i bs h)
      ∙ sym (ap (λ (b : Bool). sheet_for (pick b None (guards_at_end (read_over bs)))) (le-ltb file_most (length bs) small))

pub over-long : (bs : List ℕ) → file_most < length bs → Err FileMalformed ≡ sheet_for (outcome bs)
over-long bs h = sym (ap (λ (b : Bool). sheet_for (pick b None (guards_at_end (read_over bs)))) (lt-ltb file_most (length bs) h))
