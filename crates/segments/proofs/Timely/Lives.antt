-- The rows at work that a schedule leaves: what its ticks and the arrivals by the clock make of a fresh table.
--   last_due k r        == the deadline of the last of the first k jobs of row r
--   lives g j n rs     == the rows rs at work, the first of them at place j, where the row at m was given g m ticks and the arrivals
--                         before n have come
--   Below g j n rs     no row was given more than it was called for
use mathlib.Core.Bool.{Bool, true, false}
use mathlib.Core.List.{List, [], ◌∷◌}
use mathlib.Core.Logic.{◌⊎◌, inl, inr}
use mathlib.Core.Path.{◌≡◌, refl, ap₂, subst}
use native.Mathlib.Nat.{mul-zero, mul-suc, mul-mod_left, div-eq_of_lt-le, div-mul-le_self, add-zero}
use native.Mathlib.Omega.{arith}
use borrow.Author.Tests.{eq-eqb, ne_eqb}
use lib.Dec.{eqb}
use Prim.Native.Nat.{ℕ, zero, suc, ◌+◌, ◌-◌, ◌*◌, ◌%◌, ◌≤◌, ◌<◌}
use Rattle.demand.specs.Demands.{ceil}
use Rattle.demand.specs.Rows.{Row, row_at, Positive}
use Rattle.demand.specs.Tests.{pick}
use Rattle.demand.proofs.Divide.{le-or-lt, ceil-zero, le-ceil-mul}
use Rattle.machine.specs.Live.{Live, idle, arrive, arrive_all, owed_all, OnTime}
use Rattle.machine.specs.Machine.{share}
use Rattle.machine.specs.Schedules.{beats, RanOne, ran-here, ran-later}
use Rattle.machine.proofs.Beats.{between}
use Rattle.segments.specs.Given.{same, work_by}

abbrev pub last_due : ℕ → Row → ℕ
last_due zero r = 0
last_due (suc k) r = k * r.period + r.deadline

-- Row r, whose cost is c, after k arrivals. One without a cost never arrives.
abbrev pub live_after : ℕ → ℕ → ℕ → Row → Live
live_after c k g r = record { row = r; next = share c (k * r.period); due = share c (last_due k r); owed = c * k - g }

unfoldable pub lives : (ℕ → ℕ) → ℕ → ℕ → List Row → List Live
lives g j n [] = []
lives g j n (r ∷ rs) = live_after r.cost (ceil n r.period) (g j) r ∷ lives g (suc j) n rs

abbrev pub Below : (ℕ → ℕ) → ℕ → ℕ → List Row → Type 0
Below g j n [] = Unit
Below g j n (r ∷ rs) = (g j ≤ work_by r n) × Below g (suc j) n rs

-- Nothing is nothing, whether there is a cost or not.
share-nothing : (c : ℕ) → share c 0 ≡ 0
share-nothing zero = refl
share-nothing (suc c) = refl

-- Before tick 0 no row has arrived.
pub lives-zero : (g : ℕ → ℕ) (j : ℕ) (rs : List Row) → lives g j 0 rs ≡ idle rs
unfolding lives idle
lives-zero g j [] = refl
lives-zero g j (r ∷ rs) =
    let z : 0 * r.period ≡ 0 = omega arith in
    let o : 0 - g j ≡ 0 = omega arith in
    rw (ceil-zero r.period, mul-zero r.cost, o, z, share-nothing r.cost, lives-zero g (suc j) rs)

-- ---- arrivals

-- Rounded up: the one multiple that is not below n and not a period above it.
pub ceil-is : (p n k : ℕ) → n ≤ k * p → k * p < n + p → ceil n p ≡ k
ceil-is p n k lo hi = div-eq_of_lt-le p (omega arith) (omega arith)

-- The first multiple from t on lies less than a period ahead.
pub ceil-near : (p t : ℕ) → 0 < p → ceil t p * p < t + p
ceil-near p t pos = omega (arith, div-mul-le_self (t + (p - 1)) p)

-- Arrivals before t + 1 are those before t, and one at t where t is a multiple.
pub ceil-step : (p t : ℕ) → 0 < p
    → ((ceil t p * p ≡ t) × (ceil (suc t) p ≡ suc (ceil t p))) ⊎ ((t < ceil t p * p) × (ceil (suc t) p ≡ ceil t p))
ceil-step p t pos = go (le-or-lt (ceil t p * p) t)
  where
    k : ℕ
    k = ceil t p

    lo : t ≤ k * p
    lo = le-ceil-mul p t pos

    hi : k * p < t + p
    hi = ceil-near p t pos

    go : (k * p ≤ t) ⊎ (t < k * p) → ((k * p ≡ t) × (ceil (suc t) p ≡ suc k)) ⊎ ((t < k * p) × (ceil (suc t) p ≡ k))
    go (inl h) = inl (omega (arith, lo), ceil-is p (suc t) (suc k) (omega (arith, lo)) (omega (arith, lo, hi)))
    go (inr h) = inr (h, ceil-is p (suc t) k (omega arith) (omega (arith, hi)))

-- A row without a cost brings nothing.
pick-nothing : (b : Bool) → pick {A = ℕ} b 0 0 ≡ 0
pick-nothing true = refl
pick-nothing false = refl

-- A row arrives by the clock.
live-arrives : (t g c : ℕ) (r : Row) → 0 < r.period → g ≤ c * ceil t r.period
    → arrive t (pick (eqb (t % r.period) 0) c 0) (live_after c (ceil t r.period) g r) ≡ live_after c (ceil (suc t) r.period) g r
live-arrives t g zero r pos low =
    let a : 0 * ceil t r.period ≡ 0 = omega arith in
    let b : 0 * ceil (suc t) r.period ≡ 0 = omega arith in
    rw (pick-nothing (eqb (t % r.period) 0), a, b)
live-arrives t g (suc c) r pos low = go (ceil-step p t pos)
  where
    p : ℕ
    p = r.period

    k : ℕ
    k = ceil t p

    go : ((k * p ≡ t) × (ceil (suc t) p ≡ suc k)) ⊎ ((t < k * p) × (ceil (suc t) p ≡ k))
        → arrive t (pick (eqb (t % p) 0) (suc c) 0) (record { row = r; next = k * p; due = last_due k r; owed = suc c * k - g })
        ≡ record { row = r; next = ceil (suc t) p * p; due = last_due (ceil (suc t) p) r; owed = suc c * ceil (suc t) p - g }
    go (inl h) =
        let divides : t % p ≡ 0 = rw h.0 at (mul-mod_left k p) in
        let next : t + p ≡ suc k * p = omega (arith, h.0) in
        let due : t + r.deadline ≡ k * p + r.deadline = omega (arith, h.0) in
        let owed : suc c * k - g + suc c ≡ suc c * suc k - g = omega (arith, mul-suc (suc c) k) in
        rw (eq-eqb (t % p) 0 divides, h.1, next, due, owed)
    go (inr h) =
        rw (ne_eqb (t % p) 0 (λ divides. between t (k * p) p h.0 (ceil-near p t pos) (mul-mod_left k p) divides), h.1)

-- So do all.
pub arrived-lives : (g : ℕ → ℕ) (j t : ℕ) (rs : List Row) → Positive rs → Below g j t rs
    → arrive_all t (beats t rs) (lives g j t rs) ≡ lives g j (suc t) rs
unfolding lives arrive_all beats
arrived-lives g j t [] pos low = refl
arrived-lives g j t (r ∷ rs) pos low =
    ap₂ (λ (x : Live) (xs : List Live). x ∷ xs) (live-arrives t (g j) r.cost r pos.0 low.0)
    (arrived-lives g (suc j) t rs pos.1 low.1)

-- ---- ticks

-- Ticks that no row from j on is given change nothing.
pub lives-same : (g g' : ℕ → ℕ) (j n : ℕ) (rs : List Row) → ((m : ℕ) → j ≤ m → g' m ≡ g m) → lives g' j n rs ≡ lives g j n rs
unfolding lives
lives-same g g' j n [] e = refl
lives-same g g' j n (r ∷ rs) e = rw (e j (omega arith), lives-same g g' (suc j) n rs (λ m h. e m (omega arith)))

-- A tick given to the row at i, where it is owed work: that row runs.
pub ran-lives : (g g' : ℕ → ℕ) (i j n : ℕ) (rs : List Row) → j ≤ i → g i < work_by (row_at rs (i - j)) n → ((m : ℕ) → g' m ≡ g m + same i m)
    → RanOne (lives g j n rs) (lives g' j n rs)
unfolding lives
ran-lives g g' i j n [] l o e = absurd (omega arith)
ran-lives g g' i j n (r ∷ rs) l o e = go (i - j) refl (λ h q. ran-lives g g' i (suc j) n rs h q e)
  where
    k : ℕ
    k = ceil n r.period

    x : Live
    x = live_after r.cost k (g j) r

    go : (d : ℕ) → i - j ≡ d → (suc j ≤ i → g i < work_by (row_at rs (i - suc j)) n → RanOne (lives g (suc j) n rs) (lives g' (suc j) n rs))
        → RanOne (x ∷ lives g (suc j) n rs) (live_after r.cost k (g' j) r ∷ lives g' (suc j) n rs)
    go zero f ih =
        let here : i ≡ j = omega arith in
        let q : g j < work_by r n = subst (λ (m : ℕ). g m < work_by r n) here (subst (λ (d : ℕ). g i < work_by (row_at (r ∷ rs) d) n) f o) in
        let u : g' j ≡ suc (g j) = omega (arith, e j) in
        rw (u, lives-same g g' (suc j) n rs (λ m h. omega (arith, e m))) (ran-here {x = x} (work_by r n - suc (g j)) (omega arith))
    go (suc d) f ih =
        let later : i - suc j ≡ d = omega arith in
        let q : g i < work_by (row_at rs (i - suc j)) n = rw later (subst (λ (d : ℕ). g i < work_by (row_at (r ∷ rs) d) n) f o) in
        let u : g' j ≡ g j = omega (arith, e j) in
        rw u (ran-later (ih (omega arith) q))

-- Rows that were all given what they were called for are owed nothing.
pub none-owed : (g : ℕ → ℕ) (j n : ℕ) (rs : List Row) → ((m : ℕ) → work_by (row_at rs m) n ≤ g (j + m)) → owed_all (lives g j n rs) ≡ 0
unfolding lives owed_all
none-owed g j n [] h = refl
none-owed g j n (r ∷ rs) h =
    let z : work_by r n ≤ g j = rw (add-zero j) at (h 0) in
    omega (arith, none-owed g (suc j) n rs (λ m. (let e : suc j + m ≡ j + suc m = omega arith in rw e (h (suc m)))))

-- By place: no row was given more than it was called for.
pub below-list : (g : ℕ → ℕ) (j n : ℕ) (rs : List Row) → ((m : ℕ) → g (j + m) ≤ work_by (row_at rs m) n) → Below g j n rs
below-list g j n [] h = tt
below-list g j n (r ∷ rs) h =
    (rw (add-zero j) at (h 0), below-list g (suc j) n rs (λ m. (let e : suc j + m ≡ j + suc m = omega arith in rw e (h (suc m)))))

-- ---- deadlines

-- A row whose jobs with deadline n are complete by n is owed nothing where its last deadline is n.
on-time-row : (r : Row) (c n k g : ℕ) → r.cost ≡ c → ((k : ℕ) → k * r.period + r.deadline ≡ n → r.cost * suc k ≤ g)
    → share c (last_due k r) ≡ n → c * k - g ≡ 0
on-time-row r zero n k g e h d = omega arith
on-time-row r (suc c) n zero g e h d = rw (mul-zero (suc c)) (omega arith)
on-time-row r (suc c) n (suc k) g e h d =
    let done : suc c * suc k ≤ g = rw e at (h k d) in
    omega (arith, done)

-- So for all rows.
pub on-time-lives : (g : ℕ → ℕ) (j n : ℕ) (rs : List Row)
    → ((m k : ℕ) → k * (row_at rs m).period + (row_at rs m).deadline ≡ n → (row_at rs m).cost * suc k ≤ g (j + m)) → OnTime n (lives g j n rs)
unfolding lives
on-time-lives g j n [] h = tt
on-time-lives g j n (r ∷ rs) h = (
  λ e. on-time-row r r.cost n (ceil n r.period) (g j) refl (λ k f. (rw (add-zero j) at (h 0 k f))) e,
  on-time-lives g (suc j) n rs (λ m k f. (let e : suc j + m ≡ j + suc m = omega arith in rw e (h (suc m) k f))),
)
