-- The demands of a table in finer ticks (specs/Finer): D, A, f and what passes, k times as much in k times as many ticks.
use mathlib.Core.List.{List, [], ◌∷◌}
use mathlib.Core.Logic.{◌⊎◌, inl, inr}
use mathlib.Core.Path.{◌≡◌, refl, ap, sym, ◌∙◌}
use native.Mathlib.Nat.{mul-zero, mul-suc, mul-sub, mul_comm, mul-pos, mul-le-mul_left, div-div-eq-div-mul, add-mul-div_left, mul-div_right, div-add-mod', le_of_mul-le-mul_left}
use native.Mathlib.Omega.{arith}
use lib.Arith.{digits_div, mul_pred}
use Prim.Native.Nat.{ℕ, zero, suc, ◌+◌, ◌-◌, ◌*◌, ◌/◌, ◌%◌, ◌≤◌, ◌<◌, min, max}
use Rattle.demand.specs.Demands.{ceil, called, handled, left, due, Passes, Fails}
use Rattle.demand.specs.Rows.{Row, Positive, Sound, Valid, tasks_of, handlers_of}
use Rattle.units.specs.Finer.{times, scaled, scale}
use Rattle.demand.proofs.Demands.{called-nil, called-cons, due-nil, due-cons, handled-zero, handled-next, handled-gain}
use Rattle.demand.proofs.Divide.{jobs, le-or-lt}
use Rattle.demand.proofs.Taken.{taken-jump}

-- ---- rows

-- The rows of the multiplied list are the multiplied rows.
pub tasks-times : (k : ℕ) (t : List ℕ) → tasks_of (times k t) ≡ scale k (tasks_of t)
unfolding tasks_of times scale
tasks-times k [] = refl
tasks-times k (c ∷ []) = refl
tasks-times k (c ∷ p ∷ []) = refl
tasks-times k (c ∷ p ∷ d ∷ t) = ap (λ (rs : List Row). record { cost = k * c; period = k * p; deadline = k * d } ∷ rs) (tasks-times k t)

pub handlers-times : (k : ℕ) (h : List ℕ) → handlers_of (times k h) ≡ scale k (handlers_of h)
unfolding handlers_of times scale
handlers-times k [] = refl
handlers-times k (c ∷ []) = refl
handlers-times k (c ∷ p ∷ h) = ap (λ (rs : List Row). record { cost = k * c; period = k * p; deadline = k * p } ∷ rs) (handlers-times k h)

pub scale-nil : (k : ℕ) → scale k [] ≡ []
unfolding scale
scale-nil k = refl

pub scale-cons : (k : ℕ) (r : Row) (rs : List Row) → scale k (r ∷ rs) ≡ scaled k r ∷ scale k rs
unfolding scale
scale-cons k r rs = refl

pub scaled-sound : (k : ℕ) (r : Row) → 0 < k → Sound r → Sound (scaled k r)
scaled-sound k r pos s = record { some = mul-pos pos s.some; fits = mul-le-mul_left k s.fits }

pub scale-positive : (k : ℕ) (rs : List Row) → 0 < k → Positive rs → Positive (scale k rs)
unfolding scale
scale-positive k [] pos all = tt
scale-positive k (r ∷ rs) pos all = (mul-pos pos all.0, scale-positive k rs pos all.1)

pub scale-valid : (k : ℕ) (ts : List Row) → 0 < k → Valid ts → Valid (scale k ts)
unfolding scale
scale-valid k [] pos valid = tt
scale-valid k (r ∷ ts) pos valid = (scaled-sound k r pos valid.0, scale-valid k ts pos valid.1)

-- ---- counts

-- l ticks have as many deadlines as l / k had ..
pub jobs-scale : (k l d p : ℕ) → 0 < k → jobs l (k * d) (k * p) ≡ jobs (l / k) d p
jobs-scale k l d p pos =
    let e : l + (k * p - k * d) ≡ l + k * (p - d) = omega (arith, mul-sub k p d) in
    sym (div-div-eq-div-mul (l + (k * p - k * d)) k p) ∙ ap (λ (z : ℕ). z / p) (ap (λ (z : ℕ). z / k) e ∙ add-mul-div_left l (p - d) pos)

-- .. and as many arrivals as l / k rounded up.
pub ceil-scale : (k l a : ℕ) → 0 < k → 0 < a → ceil l (k * a) ≡ ceil (ceil l k) a
ceil-scale k l a pos ha =
    let e : l + (k * a - 1) ≡ l + (k - 1) + k * (a - 1) = omega (arith, mul_pred ha pos, mul_comm k a, mul_comm k (a - 1)) in
    sym (div-div-eq-div-mul (l + (k * a - 1)) k a) ∙ ap (λ (z : ℕ). z / a) (ap (λ (z : ℕ). z / k) e ∙ add-mul-div_left (l + (k - 1)) (a - 1) pos)

-- k times n ticks, and up to k more: n rounded up, and one more.
pub ceil-times : (k n : ℕ) → 0 < k → ceil (k * n) k ≡ n
ceil-times k n pos =
    let e : k * n + (k - 1) ≡ n * k + (k - 1) = omega arith in
    ap (λ (z : ℕ). z / k) e ∙ digits_div n (omega arith)

ceil-block : (k n j : ℕ) → j < k → ceil (k * n + suc j) k ≡ suc n
ceil-block k n j h =
    let e : k * n + suc j + (k - 1) ≡ suc n * k + j = omega arith in
    ap (λ (z : ℕ). z / k) e ∙ digits_div (suc n) h

-- ---- the demands

pub due-scale : (k l : ℕ) (ts : List Row) → 0 < k → Valid ts → due (scale k ts) l ≡ k * due ts (l / k)
due-scale k l [] pos valid = rw (scale-nil k, due-nil l, due-nil (l / k)) (omega (arith, mul-zero k))
due-scale k l (r ∷ ts) pos valid =
    rw (scale-cons k r ts, due-cons (scaled k r) (scale k ts) l (scaled-sound k r pos valid.0), due-cons r ts (l / k) valid.0, jobs-scale k l r.deadline r.period pos, due-scale k l ts pos valid.1)
    (omega arith)

pub called-scale : (k l : ℕ) (hs : List Row) → 0 < k → Positive hs → called (scale k hs) l ≡ k * called hs (ceil l k)
called-scale k l [] pos ph = rw (scale-nil k, called-nil l, called-nil (ceil l k)) (omega (arith, mul-zero k))
called-scale k l (r ∷ hs) pos ph =
    rw (scale-cons k r hs, called-cons (scaled k r) (scale k hs) l, called-cons r hs (ceil l k), ceil-scale k l r.period pos ph.0, called-scale k l hs pos ph.1)
    (omega arith)

-- k times the least of two, and the greatest.
min-max-scale : (k f a : ℕ) → 0 < k → min (k * f + k) (max (k * f) (k * a)) ≡ k * min (suc f) (max f a)
min-max-scale k f a pos = go (le-or-lt a f)
  where
    go : (a ≤ f) ⊎ (f < a) → min (k * f + k) (max (k * f) (k * a)) ≡ k * min (suc f) (max f a)
    go (inl h) =
        let e : min (suc f) (max f a) ≡ f = omega arith in
        rw e (omega (arith, mul-le-mul_left k h))
    go (inr h) =
        let e : min (suc f) (max f a) ≡ suc f = omega arith in
        rw e (omega (arith, mul-le-mul_left k h, mul-suc k f))

-- Within the next k ticks the same is called for at each.
handled-block : (k n : ℕ) (hs : List Row) → 0 < k → Positive hs
    → handled (scale k hs) (k * n + k) ≡ min (handled (scale k hs) (k * n) + k) (max (handled (scale k hs) (k * n)) (k * called hs (suc n)))
unfolding handled
handled-block k n hs pos ph = taken-jump (called (scale k hs)) (k * n) (k * called hs (suc n)) k asked
  where
    asked : (l : ℕ) → l < k → called (scale k hs) (k * n + suc l) ≡ k * called hs (suc n)
    asked l h = called-scale k (k * n + suc l) hs pos ph ∙ ap (λ (z : ℕ). k * called hs z) (ceil-block k n l h)

pub handled-scale : (k n : ℕ) (hs : List Row) → 0 < k → Positive hs → handled (scale k hs) (k * n) ≡ k * handled hs n
handled-scale k zero hs pos ph = rw (mul-zero k, handled-zero (scale k hs), handled-zero hs) (omega (arith, mul-zero k))
handled-scale k (suc n) hs pos ph =
    rw (mul-suc k n, handled-next hs n)
    (handled-block k n hs pos ph
    ∙ ap (λ (z : ℕ). min (z + k) (max z (k * called hs (suc n)))) (handled-scale k n hs pos ph)
    ∙ min-max-scale k (handled hs n) (called hs (suc n)) pos)

pub due-times : (k n : ℕ) (ts : List Row) → 0 < k → Valid ts → due (scale k ts) (k * n) ≡ k * due ts n
due-times k n ts pos valid = due-scale k (k * n) ts pos valid ∙ ap (λ (z : ℕ). k * due ts z) (mul-div_right n pos)

-- ---- lengths that pass

module _ (k : ℕ) (pos : 0 < k) (ts hs : List Row) (valid : Valid ts) (ph : Positive hs) where
  -- A length passes where as much of it as is whole passed ..
  pub passes-scale : (l : ℕ) → Passes ts hs (l / k) → Passes (scale k ts) (scale k hs) l
  passes-scale l h =
      let q : ℕ = l / k in
      let e : k * q + l % k ≡ l = omega (arith, div-add-mod' l k) in
      let g : handled (scale k hs) l ≤ handled (scale k hs) (k * q) + l % k = rw e at (handled-gain (scale k hs) (k * q) (l % k)) in
      omega (arith, g, e, handled-scale k q hs pos ph, due-scale k l ts pos valid, mul-le-mul_left k h)

  -- .. and k times a length fails where that failed, and only there.
  both-scale : (n : ℕ) → handled (scale k hs) (k * n) + due (scale k ts) (k * n) ≡ k * (handled hs n + due ts n)
  both-scale n = omega (arith, handled-scale k n hs pos ph, due-times k n ts pos valid)

  pub fails-scale : (n : ℕ) → Fails ts hs n → Fails (scale k ts) (scale k hs) (k * n)
  fails-scale n h = omega (arith, both-scale n, mul-le-mul_left k h, mul-suc k n)

  pub passes-unscale : (n : ℕ) → Passes (scale k ts) (scale k hs) (k * n) → Passes ts hs n
  passes-unscale n h = le_of_mul-le-mul_left {m = handled hs n + due ts n} {n = n} {k = k} (omega (arith, both-scale n)) pos

-- ---- the work left over (M-106)

pub called-times : (k n : ℕ) (hs : List Row) → 0 < k → Positive hs → called (scale k hs) (k * n) ≡ k * called hs n
called-times k n hs pos ph = called-scale k (k * n) hs pos ph ∙ ap (λ (z : ℕ). k * called hs z) (ceil-times k n pos)

pub left-times : (k n : ℕ) (hs : List Row) → 0 < k → Positive hs → left (scale k hs) (k * n) ≡ k * left hs n
unfolding left
left-times k n hs pos ph = omega (arith, called-times k n hs pos ph, handled-scale k n hs pos ph, mul-sub k (called hs n) (handled hs n))
