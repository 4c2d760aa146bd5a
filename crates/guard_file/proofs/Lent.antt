-- What a program writes of a page: so many bytes of it can be lent, and they are the lines.
use mathlib.Core.Bool.{Bool}
use mathlib.Core.List.{List, [], ◌∷◌}
use mathlib.Core.Logic.{◌⊎◌, inl, inr}
use mathlib.Core.Path.{◌≡◌, refl, sym, ap, subst, ◌∙◌}
use native.Mathlib.Omega.{arith}
use Prim.Native.Nat.{ℕ, ◌*◌, ◌≤◌, ◌<◌}
use borrow.Author.Tests.{lt-ltb, eqb-true}
use lib.Dec.{eqb}
use lib.ListN.{length, take, length-append}
use lib.Seq.{length-sets}
use Rattle.demand.specs.Tests.{pick}
use Rattle.demand.proofs.Divide.{le-or-lt}
use Rattle.guard_file.specs.Inside.Pages.{guard_lines_by, guard_most}
use Rattle.guard_file.specs.Page.{guard_lines, all_lines, rows_heading, rows_text, refused_text, refusal, first_refused, guards_most, refusal_of, Told, lines_by, lines_of, FileTold, laid, page_most, PageSays}
use Rattle.guard_file.specs.declared.Output.{Output}
use Rattle.guards.specs.Guards.{interrupt_cost, timer_cost, gap_of}
use Rattle.guards.specs.declared.Guard.{Guard}
use Rattle.guard_file.proofs.Laid.{laid-front}
use Rattle.guard_file.proofs.Printed.{guard-lines-most, refused-most}
use Rattle.text.proofs.Tests.{by}

-- ---- the lines of any file have room on a page

all_most : (gs : List Guard) → length (all_lines gs) ≤ length gs * guard_most
unfolding guard_lines_by
all_most [] = omega arith
all_most (g ∷ gs) =
    omega (
      arith,
      length-append (guard_lines g) (all_lines gs),
      guard-lines-most (interrupt_cost g) (timer_cost g) (gap_of g),
      all_most gs,
    )

rows-most : (gs : List Guard) → length gs ≤ guards_most → length (rows_text gs) ≤ page_most
rows-most gs few = omega (arith, length-append rows_heading (all_lines gs), all_most gs)

-- More guards than may be are refused.
none-few : (gs : List Guard) → (refusal_of gs).number ≡ 0 → length gs ≤ guards_most
none-few gs none = go (le-or-lt (length gs) guards_most)
  where
    go : (length gs ≤ guards_most) ⊎ (guards_most < length gs) → length gs ≤ guards_most
    go (inl h) = h
    go (inr h) =
        let two : ◌≡◌ {A = ℕ} 2 0 =
        sym (ap (λ (t : Bool). (pick t (refusal 2 0) (first_refused 0 gs)).number) (lt-ltb guards_most (length gs) h)) ∙ none in
        absurd (omega arith)

told-most : (gs : List Guard) → length (lines_by (refusal_of gs) gs) ≤ page_most
told-most gs =
    by (λ t. eqb (refusal_of gs).number 0 ≡ t → length
    (pick t (rows_text gs) (refused_text (refusal_of gs).number (refusal_of gs).place)) ≤ page_most)
    (eqb (refusal_of gs).number 0)
    (λ _. λ t. rows-most gs (none-few gs (eqb-true (refusal_of gs).number 0 t)))
    (λ _. λ t. omega (arith, refused-most (refusal_of gs).number (refusal_of gs).place))
    refl

file-most : (bs : List ℕ) (told : Told) → FileTold bs told → length (lines_of told) ≤ page_most
file-most bs told (inl x) = subst (λ (z : Told). length (lines_of z) ≤ page_most) (sym x.2) (told-most x.0)
file-most bs told (inr x) = subst (λ (z : Told). length (lines_of z) ≤ page_most) (sym x.1) (omega (arith, refused-most 12 0))

pub page-lent : (bs page page' : List ℕ) (out : Output) → length page ≡ page_most → PageSays bs page page' out
    → (out.len ≤ length page') × (out.len ≡ length (take out.len page'))
page-lent bs page page' out long says =
    let lines = lines_of says.told in
    let few : length lines ≤ page_most = file-most bs says.told says.figures in
    let front : take (length lines) (laid page 0 lines) ≡ lines = laid-front page lines long few in (
      omega (arith, says.counted, few, long, ap (λ (xs : List ℕ). length xs) says.written, length-sets page 0 lines),
      says.counted
          ∙ ap length (sym front)
          ∙ ap (λ (xs : List ℕ). length (take (length lines) xs)) (sym says.written)
          ∙ ap (λ (k : ℕ). length (take k page')) (sym says.counted),
    )
