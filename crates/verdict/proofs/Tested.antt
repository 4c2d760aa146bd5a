-- The count of test lengths (specs/Tested): it counts each once, how it goes on from one to the next, and how great it gets.
use mathlib.Core.Bool.{Bool, true, false, ◌&&◌, ◌||◌}
use mathlib.Core.List.{List, [], ◌∷◌}
use mathlib.Core.Logic.{◌⊎◌, inl, inr}
use mathlib.Core.Path.{◌≡◌, refl, ap, sym, subst, ◌∙◌}
use native.Mathlib.Nat.{add-zero, add-suc, mul-le-mul_left, dvd-mul_left, mod-eq-zero_of_dvd, div-add-mod', le-div_iff_mul-le, div-lt_iff_lt-mul, div-mul_cancel}
use native.Mathlib.Omega.{arith}
use borrow.Author.Tests.{leb-true, eqb-true, le-leb, eq-eqb}
use lib.Arith.{digits_div}
use lib.Dec.{ltb, leb, eqb}
use Prim.Native.Nat.{ℕ, zero, suc, ◌+◌, ◌-◌, ◌*◌, ◌/◌, ◌%◌, ◌≤◌, ◌<◌, ◌∣◌, min}
use Rattle.demand.specs.Demands.{within, due}
use Rattle.demand.specs.Multiples.{Divided}
use Rattle.demand.specs.Refusals.{FairRow, InRange}
use Rattle.demand.specs.Rows.{Row, Each, total, some, Sound, Valid}
use Rattle.demand.specs.Tests.{pick}
use Rattle.demand.proofs.Between.{due-next}
use Rattle.demand.proofs.Demands.{due-cons, due-mono}
use Rattle.demand.proofs.Divide.{jobs, le-or-lt, within-jobs, within-le, jobs-mono, jobs-next}
use Rattle.demand.proofs.Inside.Sizes.{fair-positive}
use Rattle.demand.proofs.Sums.{each_map, total-nil, total-cons, total-le}
use Rattle.verdict.specs.Facts.{bound}
use Rattle.verdict.specs.Loads.{whole}
use Rattle.verdict.specs.Multiples.{common}
use Rattle.verdict.specs.Lengths.{TestLength, LeastFailing}
use Rattle.verdict.specs.Tested.{falls, tested, own_lengths, turns, yes_end_by, yes_end, CountFew}
use Rattle.verdict.proofs.Divisors.{common-tasks}
use Rattle.verdict.proofs.Facts.Ends.{end-enough, end-le}
use Rattle.verdict.proofs.Lengths.{NoDeadline, test-or-none, fits-never-fails}

-- ---- each test length is counted, once, and nothing else

falls-yes : (l : ℕ) (r : Row) (n : ℕ) → l ≡ r.deadline + n * r.period → falls l r ≡ true
falls-yes l r n e =
    let whole : l - r.deadline ≡ n * r.period = omega arith in
    let none : (l - r.deadline) % r.period ≡ 0 = mod-eq-zero_of_dvd r.period (subst (λ (x : ℕ). r.period ∣ x) (sym whole) (dvd-mul_left r.period n)) in
    rw (le-leb r.deadline l (omega arith), eq-eqb ((l - r.deadline) % r.period) 0 none)

falls-no : (l : ℕ) (r : Row) → ((n : ℕ) → l ≡ r.deadline + n * r.period → ⊥) → falls l r ≡ false
falls-no l r none = go (leb r.deadline l) (eqb ((l - r.deadline) % r.period) 0) refl refl
  where
    go : (a b : Bool) → leb r.deadline l ≡ a → eqb ((l - r.deadline) % r.period) 0 ≡ b → (a && b) ≡ false
    go false b e f = refl
    go true false e f = refl
    go true true e f =
        absurd (none ((l - r.deadline) / r.period)
        (omega (arith, leb-true r.deadline l e, eqb-true ((l - r.deadline) % r.period) 0 f, div-add-mod' (l - r.deadline) r.period)))

or-true : (b : Bool) → (b || true) ≡ true
or-true true = refl
or-true false = refl

some-yes : (ts : List Row) (l : ℕ) → TestLength ts l → some (falls l) ts ≡ true
unfolding some
some-yes [] l t = absurd t
some-yes (r ∷ ts) l (inl (n, e)) = rw (falls-yes l r n e)
some-yes (r ∷ ts) l (inr t) = rw (some-yes ts l t) (or-true (falls l r))

some-no : (ts : List Row) (l : ℕ) → NoDeadline ts l → some (falls l) ts ≡ false
unfolding some
some-no [] l none = refl
some-no (r ∷ ts) l none = rw (falls-no l r none.0, some-no ts l none.1)

pub tested-zero : (ts : List Row) → tested ts 0 ≡ 0
unfolding tested
tested-zero ts = refl

-- A test length counts one.
pub tested-test : (ts : List Row) (n : ℕ) → TestLength ts (suc n) → tested ts (suc n) ≡ suc (tested ts n)
unfolding tested
tested-test ts n t = rw (some-yes ts (suc n) t) (omega arith)

-- Any other length counts nothing.
pub tested-other : (ts : List Row) (n : ℕ) → NoDeadline ts (suc n) → tested ts (suc n) ≡ tested ts n
unfolding tested
tested-other ts n none = rw (some-no ts (suc n) none) (omega arith)

-- ---- each task's own

pub own-nil : (n : ℕ) → own_lengths n [] ≡ 0
unfolding own_lengths
own-nil n = total-nil (λ r. within n r.deadline r.period)

pub own-cons : (n : ℕ) (r : Row) (ts : List Row) → Sound r → own_lengths n (r ∷ ts) ≡ jobs n r.deadline r.period + own_lengths n ts
unfolding own_lengths
own-cons n r ts s =
    total-cons (λ r. within n r.deadline r.period) r ts
    ∙ ap (λ (k : ℕ). k + total (λ r. within n r.deadline r.period) ts) (within-jobs n r.deadline r.period (omega (arith, s)) s.fits)

pub own_mono : (ts : List Row) → Valid ts → {m n : ℕ} → m ≤ n → own_lengths m ts ≤ own_lengths n ts
unfolding own_lengths
own_mono ts valid {m} {n} h =
    total-le (λ r. within m r.deadline r.period) (λ r. within n r.deadline r.period) ts
    (each_map (λ r s. within-le m n r.deadline r.deadline r.period r.period (omega (arith, s)) h (omega arith) (omega arith)) ts valid)

-- A row's own deadline counts one for it.
jobs-falls : (n d p k : ℕ) → 0 < d → d ≤ p → suc n ≡ d + k * p → suc (jobs n d p) ≤ jobs (suc n) d p
jobs-falls n d p k some fits e =
    let up : suc k ≤ jobs (suc n) d p = (le-div_iff_mul-le {k = p} (omega arith)).1 (omega arith) in
    let down : jobs n d p < suc k = (div-lt_iff_lt-mul {k = p} (omega arith)).1 (omega arith) in
    omega arith

-- A test length counts one or more, in sum.
pub own-test : (ts : List Row) → Valid ts → (n : ℕ) → TestLength ts (suc n) → suc (own_lengths n ts) ≤ own_lengths (suc n) ts
own-test [] valid n t = absurd t
own-test (r ∷ ts) valid n (inl (k, e)) =
    omega (
      arith,
      own-cons n r ts valid.0,
      own-cons (suc n) r ts valid.0,
      jobs-falls n r.deadline r.period k valid.0.some valid.0.fits e,
      own_mono ts valid.1 {m = n} {n = suc n} (omega arith),
    )
own-test (r ∷ ts) valid n (inr t) =
    omega (arith, own-cons n r ts valid.0, own-cons (suc n) r ts valid.0, own-test ts valid.1 n t, own_alone r valid.0)
  where
    own_alone : (q : Row) → Sound q → jobs n q.deadline q.period ≤ jobs (suc n) q.deadline q.period
    own_alone q s = omega (arith, own-cons n q [] s, own-cons (suc n) q [] s, own-nil n, own-nil (suc n), own_mono (q ∷ []) (s, tt) {m = n} {n = suc n} (omega arith))

-- Any other length counts nothing for any.
pub own-other : (ts : List Row) → Valid ts → (n : ℕ) → NoDeadline ts (suc n) → own_lengths (suc n) ts ≡ own_lengths n ts
own-other [] valid n none = omega (arith, own-nil n, own-nil (suc n))
own-other (r ∷ ts) valid n none =
    omega (
      arith,
      own-cons n r ts valid.0,
      own-cons (suc n) r ts valid.0,
      jobs-next n r.deadline r.period (omega (arith, valid.0)) valid.0.fits none.0,
      own-other ts valid.1 n none.1,
    )

-- ---- from one test length to the next

-- At a test length more falls due.
pub due-test : (ts : List Row) → Each FairRow ts → Valid ts → (n : ℕ) → TestLength ts (suc n) → due ts n < due ts (suc n)
due-test [] fair valid n t = absurd t
due-test (r ∷ ts) fair valid n (inl (k, e)) =
    let more = mul-le-mul_left r.cost (jobs-falls n r.deadline r.period k valid.0.some valid.0.fits e) in
    let rest = due-mono ts (fair-positive ts fair.1) {x = n} {y = suc n} (omega arith) in
    omega (arith, due-cons r ts n valid.0, due-cons r ts (suc n) valid.0, more, rest, fair.0.cost.least)
due-test (r ∷ ts) fair valid n (inr t) =
    let own = mul-le-mul_left r.cost (jobs-mono r.deadline r.period {x = n} {y = suc n} (omega arith)) in
    omega (arith, due-cons r ts n valid.0, due-cons r ts (suc n) valid.0, own, due-test ts fair.1 valid.1 n t)

module _ (ts : List Row) (fair : Each FairRow ts) (valid : Valid ts) where
  grows : {x y : ℕ} → x ≤ y → due ts x ≤ due ts y
  grows h = due-mono ts (fair-positive ts fair) h

  -- Where no more falls due, nothing is counted.
  pub tested-flat : (n j : ℕ) → due ts (n + j) ≡ due ts n → tested ts (n + j) ≡ tested ts n
  tested-flat n zero e = rw (add-zero n)
  tested-flat n (suc j) e = rw (add-suc n j) (go (test-or-none ts (suc (n + j))) (tested-flat n j before))
    where
      flat : due ts (suc (n + j)) ≡ due ts n
      flat = rw (add-suc n j) at e

      before : due ts (n + j) ≡ due ts n
      before = omega (arith, flat, grows {x = n} {y = n + j} (omega arith), grows {x = n + j} {y = suc (n + j)} (omega arith))

      go : TestLength ts (suc (n + j)) ⊎ NoDeadline ts (suc (n + j)) → tested ts (n + j) ≡ tested ts n → tested ts (suc (n + j)) ≡ tested ts n
      go (inl t) was = absurd (omega (arith, flat, before, due-test ts fair valid (n + j) t))
      go (inr none) was = tested-other ts (n + j) none ∙ was

  -- Where more falls due, one is counted.
  pub tested-due : (n : ℕ) → due ts n < due ts (suc n) → tested ts (suc n) ≡ suc (tested ts n)
  tested-due n more = go (test-or-none ts (suc n))
    where
      go : TestLength ts (suc n) ⊎ NoDeadline ts (suc n) → tested ts (suc n) ≡ suc (tested ts n)
      go (inl t) = tested-test ts n t
      go (inr none) = absurd (omega (arith, more, due-next ts n valid none))

-- ---- how great it gets

-- At most the sum of each task's own.
pub tested_le : (ts : List Row) → Valid ts → (n : ℕ) → tested ts n ≤ own_lengths n ts
tested_le ts valid zero = omega (arith, tested-zero ts)
tested_le ts valid (suc n) = go (test-or-none ts (suc n)) (tested_le ts valid n)
  where
    go : TestLength ts (suc n) ⊎ NoDeadline ts (suc n) → tested ts n ≤ own_lengths n ts → tested ts (suc n) ≤ own_lengths (suc n) ts
    go (inl t) was = omega (arith, was, tested-test ts n t, own-test ts valid n t)
    go (inr none) was = omega (arith, was, tested-other ts n none, own-other ts valid n none)

pub tested-le-own : (ts : List Row) → Valid ts → (n H : ℕ) → n ≤ H → tested ts n ≤ own_lengths H ts
tested-le-own ts valid n H h = omega (arith, tested_le ts valid n, own_mono ts valid h)

-- At most one a tick.
pub tested-le-end : (ts : List Row) (n : ℕ) → tested ts n ≤ n
tested-le-end ts zero = omega (arith, tested-zero ts)
tested-le-end ts (suc n) = go (test-or-none ts (suc n)) (tested-le-end ts n)
  where
    go : TestLength ts (suc n) ⊎ NoDeadline ts (suc n) → tested ts n ≤ n → tested ts (suc n) ≤ suc n
    go (inl t) was = omega (arith, was, tested-test ts n t)
    go (inr none) was = omega (arith, was, tested-other ts n none)

-- Up to a common multiple of the periods each task has as many as that has of its periods.
jobs-whole : (H d p : ℕ) → 0 < d → d ≤ p → p ∣ H → jobs H d p ≡ H / p
jobs-whole H d p some fits whole =
    let w : H + (p - d) ≡ H / p * p + (p - d) = omega (arith, div-mul_cancel p whole) in
    ap (λ (z : ℕ). z / p) w ∙ digits_div (H / p) (omega arith)

pub own-whole : (H : ℕ) (ts : List Row) → Valid ts → Divided H ts → own_lengths H ts ≡ turns H ts
unfolding turns
own-whole H [] valid d = omega (arith, own-nil H, total-nil (λ r. H / r.period))
own-whole H (r ∷ ts) valid d =
    let rest : own_lengths H ts ≡ total (λ r. H / r.period) ts = unfold turns in own-whole H ts valid.1 d.1 in
    omega (
      arith,
      own-cons H r ts valid.0,
      total-cons (λ r. H / r.period) r ts,
      jobs-whole H r.deadline r.period valid.0.some valid.0.fits d.0,
      rest,
    )

pub tested-le-turns : (ts : List Row) → Valid ts → (n H : ℕ) → Divided H ts → n ≤ H → tested ts n ≤ turns H ts
tested-le-turns ts valid n H d h = omega (arith, tested-le-own ts valid n H h, own-whole H ts valid d)

-- ---- of a table: what a sheet shows

module _ (ts hs : List Row) (fair : InRange ts hs) where
  -- The shortest length that fails is not above H.
  pub failing-by-common : (l : ℕ) → LeastFailing ts hs l → l ≤ common ts hs
  failing-by-common l f = go (le-or-lt l (common ts hs))
    where
      go : (l ≤ common ts hs) ⊎ (common ts hs < l) → l ≤ common ts hs
      go (inl h) = h
      go (inr h) = absurd (fits-never-fails ts hs l (end-enough ts hs fair (λ m from within. f.least m from (omega (arith, within, end-le ts hs, h)))) f)

  -- Nor is the end of the search on a yes.
  pub yes-end-le : (z : ℕ) → yes_end ts hs z ≤ common ts hs
  unfolding yes_end yes_end_by
  yes-end-le z = go (ltb (whole ts hs) (common ts hs))
    where
      go : (b : Bool) → pick b (min (min (common ts hs) z) ((bound ts hs - 1) / (common ts hs - whole ts hs))) (min (common ts hs) z) ≤ common ts hs
      go true = omega arith
      go false = omega arith

  -- Each count that a sheet shows is at most the sum, over tasks, of the number of that task's test lengths up to H.
  pub count-few : CountFew ts hs
  count-few = record {
    yes = λ n y. omega (arith, y.count, tested-le-own ts fair.deadlines (yes_end ts hs y.point) (common ts hs) (yes-end-le y.point));
    no = λ l f. tested-le-own ts fair.deadlines l (common ts hs) (failing-by-common l f);
    sum = own-whole (common ts hs) ts fair.deadlines (common-tasks ts hs);
  }
