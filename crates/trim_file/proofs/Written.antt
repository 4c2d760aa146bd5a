-- Parts laid one behind the other are a page on which all of it is written.
use mathlib.Core.List.{List, [], ◌++◌, append_assoc, append-nil}
use mathlib.Core.Path.{◌≡◌, refl, sym, ap, ◌∙◌, subst}
use native.Mathlib.Nat.{zero-add}
use native.Mathlib.Omega.{arith}
use Prim.Native.Nat.{ℕ, ◌+◌, ◌-◌, ◌≤◌}
use lib.ListN.{length, length-append, length-replicate, length-drop, replicate, take, drop}
use lib.Seq.{take-append_seam, length-take-le}
use Rattle.std.specs.Prelude.{Option, Some, None, Result, Ok}
use Rattle.trim.specs.declared.Cut.{Cut}
use Rattle.demand.specs.Numbered.{number_of}
use Rattle.text.proofs.Reasons.{reason-some}
use Rattle.demand.specs.declared.refusal.Refusal.{Refusal}
use Rattle.text.specs.Reasons.{reason}
use Rattle.page.specs.Laid.{end_of, laid}
use Rattle.page.proofs.Laid.{end-room, laid-room, laid-append, laid-length}
use Rattle.recost.specs.Inside.Scan.{cost_from, recosted}
use Rattle.text.specs.Numbers.{decimal}
use Rattle.text.specs.Text.{puts_of}
use Rattle.text.proofs.Numbers.{decimal-most}
use Rattle.text.proofs.Writes.{puts-blank}
use Rattle.trim_file.specs.Inside.{bare_sheet, added, written, Replaces, CanCut, CanWrite, output_cut, output_by}
use Rattle.trim_file.specs.Printed.{cost_lines, none_lines}
use Rattle.trim_file.specs.Whole.{page_most, output_of, page_of}
use Rattle.trim_file.specs.declared.Output.{Output}
use Rattle.trim_file.specs.declared.write.Sheet.{Sheet}
use Rattle.trim_file.proofs.Printed.{cost-most}

-- ---- texts

-- A number by itself.
pub number-text : (n m : ℕ) (b r : List ℕ) → m ≡ n → b ≡ [] → r ≡ puts_of b (decimal m) → r ≡ decimal n
number-text n m b r w e f =
    f ∙ ap (λ (t : List ℕ). puts_of t (decimal m)) e ∙ ap (λ (k : ℕ). puts_of [] (decimal k)) w
    ∙ puts-blank (decimal n) (omega (arith, decimal-most n))

-- ---- a page

pub blank-length : length (replicate {A = ℕ} page_most 0) ≡ page_most
blank-length = length-replicate {A = ℕ} page_most 0

pub bare-written : bare_sheet ≡ written []
unfolding bare_sheet written
bare-written =
    let none : replicate page_most 0 ≡ laid (replicate page_most 0) 0 [] =
    sym (laid-room (replicate page_most 0) [] 0 (omega arith)) in
    λ i. record { bytes = none i; len = 0 }

pub written-length : (xs : List ℕ) → (written xs).len ≡ length xs
unfolding written
written-length xs = refl

-- One part more.
pub add-written : (xs bs : List ℕ) → length xs + length bs ≤ page_most → added (written xs) bs ≡ written (xs ++ bs)
unfolding added written
add-written xs bs fits =
    let page : List ℕ = replicate page_most 0 in
    let room : 0 + (length xs + length bs) ≤ length page = omega (arith, blank-length) in
    let long : length (laid page 0 xs) ≡ length page = laid-length page xs 0 (omega (arith, blank-length)) in
    let bytes : laid (laid page 0 xs) (length xs) bs ≡ laid page 0 (xs ++ bs) =
    ap (λ (n : ℕ). laid (laid page 0 xs) n bs) (sym (zero-add (length xs))) ∙ laid-append page xs bs 0 room in
    let len : end_of (length (laid page 0 xs)) (length xs) (length bs) ≡ length (xs ++ bs) =
    end-room (laid page 0 xs) bs (length xs) (omega (arith, long, blank-length)) ∙ sym (length-append xs bs) in
    λ i. record { bytes = bytes i; len = len i }

-- ---- the whole

-- Three parts behind the lines.
pub parts-written : (lines x y z : List ℕ) → length lines + (length x + (length y + length z)) ≤ page_most
    → added (added (added (written lines) x) y) z ≡ written (lines ++ (x ++ (y ++ z)))
parts-written lines x y z fits =
    ap (λ (s : Sheet). added (added s y) z) (add-written lines x (omega arith))
    ∙ ap (λ (s : Sheet). added s z) (add-written (lines ++ x) y (omega (arith, length-append lines x)))
    ∙ add-written ((lines ++ x) ++ y) z (omega (arith, length-append lines x, length-append (lines ++ x) y))
    ∙ ap written (simp append_assoc)

pub output-is : (lines file : List ℕ) (k : Option Refusal) (n : ℕ) (sheet : Sheet) → sheet ≡ written (lines ++ file) → n ≡ length lines
    → ◌≡◌ {A = Output} (record { bytes = sheet.bytes; lines = n; len = sheet.len; refusal = k }) (page_of lines file k)
unfolding written page_of
output-is lines file k n sheet e h =
    λ i. record { bytes = ap (λ (s : Sheet). s.bytes) e i; lines = h i; len = ap (λ (s : Sheet). s.len) e i; refusal = k }

-- The lines alone.
pub alone-is : (lines : List ℕ) (k : Option Refusal) (bare sheet : Sheet) → length lines ≤ page_most → bare ≡ bare_sheet
    → sheet ≡ added bare lines
    → ◌≡◌ {A = Output} (record { bytes = sheet.bytes; lines = sheet.len; len = sheet.len; refusal = k }) (page_of lines [] k)
alone-is lines k bare sheet fits b e =
    let is : sheet ≡ written (lines ++ []) =
    e ∙ ap (λ (s : Sheet). added s lines) (b ∙ bare-written) ∙ add-written [] lines (omega arith) ∙ ap written (sym (append-nil lines)) in
    output-is lines [] k sheet.len sheet is (ap (λ (s : Sheet). s.len) is ∙ written-length (lines ++ []) ∙ ap length (append-nil lines))

-- The lines of a cost, by themselves.
pub lines-written : (row code old new : ℕ) (text : List ℕ) (bare sheet : Sheet) → text ≡ cost_lines row code old new → bare ≡ bare_sheet
    → sheet ≡ added bare text → sheet ≡ written (cost_lines row code old new)
lines-written row code old new text bare sheet t b e =
    let lines = cost_lines row code old new in
    e ∙ ap (λ (s : Sheet). added s text) (b ∙ bare-written)
    ∙ ap (λ (bs : List ℕ). added (written []) bs) t
    ∙ add-written [] lines (omega (arith, cost-most row code old new))

module _ (bs : List ℕ) (i old new : ℕ) (r : Replaces bs i old) where
  -- With the file behind them.
  pub file-is : (at behind : ℕ) (lines sheet : Sheet) → at ≡ cost_from bs i → behind ≡ at + length (decimal old)
      → lines ≡ written (cost_lines i 0 old new) → sheet ≡ added (added (added lines (take at bs)) (decimal new)) (drop behind bs)
      → ◌≡◌ {A = Output} (record { bytes = sheet.bytes; lines = lines.len; len = sheet.len; refusal = None })
      (output_of (cost_lines i 0 old new) (recosted bs (cost_from bs i) old new) 0)
  unfolding recosted written reason
  file-is at behind lines sheet a b l e =
      let text = cost_lines i 0 old new in
      let front : take at bs ≡ take (cost_from bs i) bs = ap (λ (n : ℕ). take n bs) a in
      let back : drop behind bs ≡ drop (cost_from bs i + length (decimal old)) bs =
      ap (λ (n : ℕ). drop n bs) (b ∙ ap (λ (n : ℕ). n + length (decimal old)) a) in
      let fits : length text + (length (take (cost_from bs i) bs) + (length (decimal new) + length (drop (cost_from bs i + length (decimal old)) bs))) ≤ page_most =
      omega (
        arith,
        cost-most i 0 old new,
        decimal-most new,
        r.small,
        r.within,
        length-take-le (cost_from bs i) bs (omega (arith, r.within)),
        length-drop (cost_from bs i + length (decimal old)) bs,
      ) in
      let is : sheet ≡ written (text ++ (take (cost_from bs i) bs ++ (decimal new ++ drop (cost_from bs i + length (decimal old)) bs))) =
      e ∙ ap (λ (s : Sheet). added (added (added s (take at bs)) (decimal new)) (drop behind bs)) l
      ∙ ap (λ (z : List ℕ). added (added (added (written text) z) (decimal new)) (drop behind bs)) front
      ∙ ap (λ (z : List ℕ). added (added (added (written text) (take (cost_from bs i) bs)) (decimal new)) z) back
      ∙ parts-written text (take (cost_from bs i) bs) (decimal new) (drop (cost_from bs i + length (decimal old)) bs) fits in
      output-is text (take (cost_from bs i) bs ++ (decimal new ++ drop (cost_from bs i + length (decimal old)) bs)) None lines.len sheet is
      (ap (λ (s : Sheet). s.len) l)

-- ---- the lines of an answer without a file

-- of none,
pub none-is : (i old m : ℕ) (text : List ℕ) (out : Output) → m ≡ old → text ≡ none_lines i m
    → out ≡ page_of text [] None → out ≡ output_of (none_lines i old) [] 0
unfolding reason
none-is i old m text out w t e =
    e ∙ ap (λ (bs : List ℕ). page_of bs [] None) (t ∙ ap (none_lines i) w)

-- and of a refusal.
pub refused-is : (r : Refusal) (m : ℕ) (text : List ℕ) (out : Output) → m ≡ number_of r → text ≡ cost_lines 0 m 0 0
    → out ≡ page_of text [] (Some r) → out ≡ output_of (cost_lines 0 (number_of r) 0 0) [] (number_of r)
refused-is r m text out w t e =
    e ∙ ap (λ (bs : List ℕ). page_of bs [] (Some r)) (t ∙ ap (λ (k : ℕ). cost_lines 0 k 0 0) w)
    ∙ ap (page_of (cost_lines 0 (number_of r) 0 0) []) (reason-some r)

-- ---- by what an answer is

module _ (bs : List ℕ) (i : ℕ) (a : Result Cut Refusal) (cut : Cut) (is : a ≡ Ok cut) where
  pub cut-replaces : (new : ℕ) → cut.new ≡ Some new → CanWrite bs i a → Replaces bs i cut.old
  unfolding CanWrite
  cut-replaces new e can = subst (CanCut bs i cut.old) e (subst (CanWrite bs i) is can)

  pub cut-output : (new : Option ℕ) (out : Output) → cut.new ≡ new → out ≡ output_cut bs i cut.old new → out ≡ output_by bs i a
  unfolding output_by
  cut-output new out e f = f ∙ sym (ap (output_cut bs i cut.old) e) ∙ sym (ap (output_by bs i) is)
