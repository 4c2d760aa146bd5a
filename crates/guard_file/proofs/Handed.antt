-- A number that the call does not take changes no line: as the greatest that it takes, it is refused just as well.
--   Alike x y   x and y are equal, or both above every figure of a row
use mathlib.Core.Bool.{Bool, true, false, ◌||◌}
use mathlib.Core.List.{List, [], ◌∷◌, ◌++◌}
use mathlib.Core.Logic.{◌⊎◌, inl, inr}
use mathlib.Core.Path.{◌≡◌, refl, sym, ap, ◌∙◌}
use native.Mathlib.Nat.{mul_comm, mul-le-mul_left}
use native.Mathlib.Omega.{arith}
use borrow.Author.Tests.{lt-ltb, eqb-true, eqb-false, ne_eqb}
use lib.Dec.{eqb, ltb}
use lib.ListN.{length}
use Prim.Native.Nat.{ℕ, zero, suc, ◌+◌, ◌*◌, ◌≤◌, ◌<◌}
use Rattle.demand.specs.Limits.{figure_most}
use Rattle.demand.specs.Refusals.{outside}
use Rattle.demand.specs.Tests.{pick}
use Rattle.demand.proofs.Divide.{le-or-lt}
use Rattle.demand.proofs.Refusals.{neither}
use Rattle.guard_file.specs.Inside.Handed.{number_most, cap, handed, all_handed}
use Rattle.guard_file.specs.Page.{row_line, guard_lines, all_lines, rows_heading, rows_text, refused_text, Refusal, refusal, first_refused, guards_most, refusal_of, lines_by}
use Rattle.guards.specs.Guards.{interrupt_cost, timer_cost, gap_of, burst_most, burst_outside, rows_outside, guard_refusal}
use Rattle.guards.specs.declared.Guard.{Guard}
use Rattle.guards.specs.declared.Guard.TheVariants.{Strict, Bursty}
use Rattle.guards.proofs.Answers.{refusal_is}
use Rattle.text.proofs.Tests.{by}

-- ---- numbers that are refused alike

abbrev Alike : ℕ → ℕ → Type 0
Alike x y = (x ≡ y) ⊎ ((figure_most < x) × (figure_most < y))

cap-alike : (n : ℕ) → Alike (cap n) n
cap-alike n = go (le-or-lt n number_most)
  where
    go : (n ≤ number_most) ⊎ (number_most < n) → Alike (cap n) n
    go (inl h) = inl (omega arith)
    go (inr h) = inr (omega arith, omega arith)

alike-add : (a b c d : ℕ) → Alike a b → Alike c d → Alike (a + c) (b + d)
alike-add a b c d (inl e) (inl f) = inl (omega arith)
alike-add a b c d (inl e) (inr f) = inr (omega (arith, f.0), omega (arith, f.1))
alike-add a b c d (inr e) f = inr (omega (arith, e.0), omega (arith, e.1))

alike-times : (n a b : ℕ) → 1 ≤ n → Alike a b → Alike (n * a) (n * b)
alike-times n a b from (inl e) = inl (ap (λ (x : ℕ). n * x) e)
alike-times n a b from (inr e) = inr (grows a e.0, grows b e.1)
  where
    grows : (x : ℕ) → figure_most < x → figure_most < n * x
    grows x h = omega (arith, mul-le-mul_left x from, mul_comm x n)

alike-outside : (a b : ℕ) → Alike a b → outside a ≡ outside b
alike-outside a b (inl e) = ap outside e
alike-outside a b (inr e) = above a e.0 ∙ sym (above b e.1)
  where
    above : (x : ℕ) → figure_most < x → outside x ≡ true
    above x h = rw (ne_eqb x 0 (λ e. omega arith), lt-ltb figure_most x h)

-- A figure that is not refused is the same.
alike_same : (a b : ℕ) → Alike a b → outside b ≡ false → a ≡ b
alike_same a b (inl e) fine = e
alike_same a b (inr e) fine = absurd (clash (ne_eqb b 0 (λ z. omega (arith, e.1))) (lt-ltb figure_most b e.1) fine)
  where
    clash : eqb b 0 ≡ false → ltb figure_most b ≡ true → (eqb b 0 || ltb figure_most b) ≡ false → ⊥
    clash f g h =
        let told : true ≡ false = rw (f, g) at h in
        let z : ◌≡◌ {A = ℕ} 0 1 = cc told in
        omega arith

-- ---- a guard

module _ (i t p i' t' p' : ℕ) (interrupt : Alike i i') (timer : Alike t t') (period : Alike p p') where
  rows_alike : rows_outside i t p ≡ rows_outside i' t' p'
  rows_alike = rw (alike-outside i i' interrupt, alike-outside t t' timer, alike-outside p p' period)

  rows_same : rows_outside i' t' p' ≡ false → (i ≡ i') × (t ≡ t') × (p ≡ p')
  rows_same fine =
      let both = neither (outside i' || outside p') (outside t' || outside p') fine in
      let first = neither (outside i') (outside p') both.0 in
      let second = neither (outside t') (outside p') both.1 in
      (alike_same i i' interrupt first.0, alike_same t t' timer second.0, alike_same p p' period first.1)

record Near (g : Guard) : Type 0 where
  burst : burst_outside (handed g) ≡ burst_outside g
  interrupt : burst_outside g ≡ false → Alike (interrupt_cost (handed g)) (interrupt_cost g)
  timer : Alike (timer_cost (handed g)) (timer_cost g)
  period : Alike (gap_of (handed g)) (gap_of g)

alike-three : (a b c : ℕ) → Alike (cap a + cap b + cap c) (a + b + c)
alike-three a b c = alike-add (cap a + cap b) (a + b) (cap c) c (alike-add (cap a) a (cap b) b (cap-alike a) (cap-alike b)) (cap-alike c)

near : (g : Guard) → Near g
near (Strict int flip setup work expire gap) = record {
  burst = refl;
  interrupt =
      λ _. alike-add (cap int + cap flip + cap setup) (int + flip + setup) (cap work) work (alike-three int flip setup) (cap-alike work);
  timer = alike-add (cap expire) expire (cap flip) flip (cap-alike expire) (cap-alike flip);
  period = cap-alike gap;
}
near (Bursty n int flip work expire count clear gap) = go (le-or-lt n burst_most)
  where
    go : (n ≤ burst_most) ⊎ (burst_most < n) → Near (Bursty n int flip work expire count clear gap)
    go (inl h) =
        let same : cap n ≡ n = omega arith in
        record {
          burst = ap (λ (m : ℕ). eqb m 0 || ltb burst_most m) same;
          interrupt = λ inside.
              let some : 1 ≤ n = positive (neither (eqb n 0) (ltb burst_most n) inside).0 in
              rw same
              (alike-add (n * (cap int + cap work + cap count)) (n * (int + work + count)) (cap flip) flip
              (alike-times n (cap int + cap work + cap count) (int + work + count) some (alike-three int work count)) (cap-alike flip));
          timer = alike-three expire clear flip;
          period = cap-alike gap;
        }
      where
        positive : eqb n 0 ≡ false → 1 ≤ n
        positive e = some n (eqb-false n 0 e)
          where
            some : (m : ℕ) → (m ≡ 0 → ⊥) → 1 ≤ m
            some zero f = absurd (f refl)
            some (suc m) f = omega arith
    go (inr h) = record {
      burst = over (cap n) (omega arith) ∙ sym (over n h);
      interrupt = λ inside. absurd (clash (sym (over n h) ∙ inside));
      timer = alike-three expire clear flip;
      period = cap-alike gap;
    }
      where
        over : (m : ℕ) → burst_most < m → (eqb m 0 || ltb burst_most m) ≡ true
        over m l = rw (ne_eqb m 0 (λ e. omega arith), lt-ltb burst_most m l)

        clash : true ≡ false → ⊥
        clash e =
            let z : ◌≡◌ {A = ℕ} 0 1 = cc e in
            omega arith

-- 14, then 3
abbrev number_by : Bool → Bool → ℕ
number_by burst rows = pick burst 14 (pick rows 3 0)

abbrev rows_out : Guard → Bool
rows_out g = rows_outside (interrupt_cost g) (timer_cost g) (gap_of g)

-- The same refusal,
guard-handed : (g : Guard) → guard_refusal (handed g) ≡ guard_refusal g
guard-handed g =
    refusal_is (handed g)
    ∙ ap (λ (b : Bool). number_by b (rows_out (handed g))) (near g).burst
    ∙ by (λ b. burst_outside g ≡ b → number_by b (rows_out (handed g)) ≡ number_by b (rows_out g)) (burst_outside g)
    (λ _. λ _. refl)
    (λ _. λ inside. ap (number_by false)
    (rows_alike (interrupt_cost (handed g)) (timer_cost (handed g)) (gap_of (handed g)) (interrupt_cost g) (timer_cost g) (gap_of g)
    ((near g).interrupt inside) (near g).timer (near g).period))
    refl
    ∙ sym (refusal_is g)

-- and where there is none, the same rows.
rows-handed : (g : Guard) → guard_refusal g ≡ 0 → guard_lines (handed g) ≡ guard_lines g
rows-handed g none =
    let inside = none_told (burst_outside g) (rows_out g) (sym (refusal_is g) ∙ none) in
    let same =
    rows_same (interrupt_cost (handed g)) (timer_cost (handed g)) (gap_of (handed g)) (interrupt_cost g) (timer_cost g) (gap_of g)
    ((near g).interrupt inside.0) (near g).timer (near g).period inside.1 in
    λ k. row_line (same.0 k) (same.2 k) ++ row_line (same.1 k) (same.2 k)
  where
    none_told : (b r : Bool) → number_by b r ≡ 0 → (b ≡ false) × (r ≡ false)
    none_told true r e = absurd (omega arith)
    none_told false true e = absurd (omega arith)
    none_told false false e = (refl, refl)

-- ---- all guards

first-handed : (i : ℕ) (gs : List Guard) → first_refused i (all_handed gs) ≡ first_refused i gs
first-handed i [] = refl
first-handed i (g ∷ gs) = rw (guard-handed g, first-handed (suc i) gs)

length-handed : (gs : List Guard) → length (all_handed gs) ≡ length gs
length-handed [] = refl
length-handed (g ∷ gs) = ap suc (length-handed gs)

pub refusal-handed : (gs : List Guard) → refusal_of (all_handed gs) ≡ refusal_of gs
refusal-handed gs = rw (length-handed gs, first-handed 0 gs)

all-handed : (i : ℕ) (gs : List Guard) → (first_refused i gs).number ≡ 0 → all_lines (all_handed gs) ≡ all_lines gs
all-handed i [] none = refl
all-handed i (g ∷ gs) none =
    by (λ t. eqb (guard_refusal g) 0 ≡ t → (pick t (first_refused (suc i) gs) (refusal (guard_refusal g) i)).number ≡ 0
    → guard_lines (handed g) ++ all_lines (all_handed gs) ≡ guard_lines g ++ all_lines gs)
    (eqb (guard_refusal g) 0)
    (λ _. λ t. λ rest.
    let first : guard_lines (handed g) ≡ guard_lines g = rows-handed g (eqb-true (guard_refusal g) 0 t) in
    let others : all_lines (all_handed gs) ≡ all_lines gs = all-handed (suc i) gs rest in
    λ k. first k ++ others k)
    (λ _. λ t. λ zero. absurd (eqb-false (guard_refusal g) 0 t zero))
    refl none

-- No refusal at all is none of a guard.
none_first : (gs : List Guard) → (refusal_of gs).number ≡ 0 → (first_refused 0 gs).number ≡ 0
none_first gs =
    by (λ t. (pick t (refusal 2 0) (first_refused 0 gs)).number ≡ 0 → (first_refused 0 gs).number ≡ 0) (ltb guards_most (length gs))
    (λ _. λ two. absurd (omega arith))
    (λ _. λ none. none)

-- So the lines are those of the guards as the file says them.
pub lines-handed : (gs : List Guard) → lines_by (refusal_of (all_handed gs)) (all_handed gs) ≡ lines_by (refusal_of gs) gs
lines-handed gs =
    ap (λ (r : Refusal). lines_by r (all_handed gs)) (refusal-handed gs)
    ∙ by (λ t. eqb (refusal_of gs).number 0 ≡ t
    → pick t (rows_text (all_handed gs)) (refused_text (refusal_of gs).number (refusal_of gs).place)
    ≡ pick t (rows_text gs) (refused_text (refusal_of gs).number (refusal_of gs).place))
    (eqb (refusal_of gs).number 0)
    (λ _. λ t. ap (λ (z : List ℕ). rows_heading ++ z) (all-handed 0 gs (none_first gs (eqb-true (refusal_of gs).number 0 t))))
    (λ _. λ t. refl)
    refl
