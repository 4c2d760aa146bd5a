-- Laws of the tests of a piece: no row waits, lapses or is late sooner than they say, and one is then.
--   Lapse c p g a x        at tick x, from a on, a row that is given every tick is not owed work
--   Wait a g j rs x        some row of rs, the first of which stands at j, waits at x
--   Late a g w j rs y      some task of rs is not in time at y
use mathlib.Core.List.{List, [], ◌∷◌}
use mathlib.Core.Logic.{◌⊎◌, inl, inr}
use mathlib.Core.Path.{◌≡◌, refl, ap, ◌∙◌}
use native.Mathlib.Nat.{mul-zero, add-zero, div-zero}
use native.Mathlib.Omega.{arith}
use lib.ListN.{length}
use Prim.Native.Nat.{ℕ, zero, suc, ◌+◌, ◌-◌, ◌*◌, ◌≤◌, ◌<◌, min, max}
use Rattle.demand.specs.Demands.{ceil}
use Rattle.demand.specs.Rows.{Row, row_at}
use Rattle.demand.proofs.Divide.{jobs, le-or-lt}
use Rattle.segments.specs.Given.{Who, task, to_task}
use Rattle.segments.specs.Inside.{cond, lapse_tick, due_after, wait_tick, late_clock, wait_of, lapse_of, rest_of, run_of, waits_of, lates_of}
use Rattle.segments.proofs.Pieces.Counts.{task-bit}
use Rattle.segments.proofs.Pieces.OneRow.{Busy, busy-before, lapse-idle, busy-ever, busy-first, lapses}
use Rattle.segments.proofs.Pieces.Piece.{Meets}

-- Before its lapse a row is owed work.
pub lapse-busy : (far a c p g t : ℕ) → a ≤ t → t < lapse_of far a c p g → Busy c p g a t
lapse-busy far a c zero g t l h = absurd (omega arith)
lapse-busy far a c (suc p) g t l h = go (suc p - c) refl h
  where
    K : ℕ
    K = ceil (suc a) (suc p)

    heavy : suc p ≤ c → (m : ℕ) → K * suc p + g - (a + c * K) ≡ m → t < cond m far (a + (c * K - g)) → Busy c (suc p) g a t
    heavy f zero e h = busy-ever c (suc p) g a t (omega arith) f (omega arith) l
    heavy f (suc m) e h = busy-first c (suc p) g a t (omega arith) l h

    go : (n : ℕ) → suc p - c ≡ n → t < cond n (cond (K * suc p + g - (a + c * K)) far (a + (c * K - g))) (lapse_tick c (suc p) g a)
        → Busy c (suc p) g a t
    go zero e h = heavy (omega arith) (K * suc p + g - (a + c * K)) refl h
    go (suc n) e h = busy-before c (suc p) g a t (omega arith) l h

pub record Lapse (c p g a x : ℕ) : Type 0 where
  pub from : a ≤ x
  pub idle : ¬ Busy c p g a x

-- And then it is not.
pub lapse-found : (far a c p g : ℕ) → g ≤ c * ceil (suc a) p → lapse_of far a c p g < far → Lapse c p g a (lapse_of far a c p g)
lapse-found far a c zero g low h =
    let none : ceil (suc a) 0 ≡ 0 = div-zero (suc a + (0 - 1)) in
    record {
      from = omega arith;
      idle = λ b. (let q : g + (a - a) < c * 0 = rw none at b in omega (arith, q, mul-zero c));
    }
lapse-found far a c (suc p) g low h = go (suc p - c) refl h
  where
    K : ℕ
    K = ceil (suc a) (suc p)

    heavy : suc p ≤ c → (m : ℕ) → K * suc p + g - (a + c * K) ≡ m → cond m far (a + (c * K - g)) < far
        → Lapse c (suc p) g a (cond m far (a + (c * K - g)))
    heavy f zero e h = absurd (omega arith)
    heavy f (suc m) e h = record { from = omega arith; idle = lapses c (suc p) g a K (omega arith) low (omega arith) }

    go : (n : ℕ) → suc p - c ≡ n → cond n (cond (K * suc p + g - (a + c * K)) far (a + (c * K - g))) (lapse_tick c (suc p) g a) < far
        → Lapse c (suc p) g a (cond n (cond (K * suc p + g - (a + c * K)) far (a + (c * K - g))) (lapse_tick c (suc p) g a))
    go zero e h = heavy (omega arith) (K * suc p + g - (a + c * K)) refl h
    go (suc n) e h = record { from = omega arith; idle = lapse-idle c (suc p) g a (omega arith) low }

-- No row waits sooner, and if that is before far then some row waits then.
pub waits-low : (far a : ℕ) (g : ℕ → ℕ) (j : ℕ) (rs : List Row) (m : ℕ) → 0 < (row_at rs m).cost
    → waits_of far a g j rs ≤ max a (wait_tick (row_at rs m) (g (j + m)))
unfolding waits_of
waits-low far a g j [] m h = absurd (omega arith)
waits-low far a g j (r ∷ rs) zero h = rw (add-zero j) (go r.cost refl)
  where
    go : (c : ℕ) → r.cost ≡ c → min (cond c far (max a (wait_tick r (g j)))) (waits_of far a g (suc j) rs) ≤ max a (wait_tick r (g j))
    go zero e = absurd (omega arith)
    go (suc c) e = omega arith
waits-low far a g j (r ∷ rs) (suc m) h =
    let e : j + suc m ≡ suc j + m = omega arith in
    rw e (omega (arith, waits-low far a g (suc j) rs m h))

pub record Wait (a : ℕ) (g : ℕ → ℕ) (j : ℕ) (rs : List Row) (x : ℕ) : Type 0 where
  pub place : ℕ
  pub some : 0 < (row_at rs place).cost
  pub is : x ≡ max a (wait_tick (row_at rs place) (g (j + place)))

-- The row that waits first.
pub waits-found : (far a : ℕ) (g : ℕ → ℕ) (j : ℕ) (rs : List Row) → waits_of far a g j rs < far → Wait a g j rs (waits_of far a g j rs)
unfolding waits_of
waits-found far a g j [] h = absurd (omega arith)
waits-found far a g j (r ∷ rs) h =
    go r.cost refl (le-or-lt (wait_of far a r (g j)) (waits_of far a g (suc j) rs)) (λ l. waits-found far a g (suc j) rs l)
  where
    rest : ℕ
    rest = waits_of far a g (suc j) rs

    later : (u : ℕ) → u < far → min (wait_of far a r (g j)) rest ≡ u → (u ≡ rest) → (rest < far → Wait a g (suc j) rs rest)
        → Wait a g j (r ∷ rs) (min (wait_of far a r (g j)) rest)
    later u l e f ih =
        let q : Wait a g (suc j) rs rest = ih (omega arith) in
        let k : j + suc q.place ≡ suc j + q.place = omega arith in
        record { place = suc q.place; some = q.some; is = rw k (e ∙ f ∙ q.is) }

    go : (c : ℕ) → r.cost ≡ c → (wait_of far a r (g j) ≤ rest) ⊎ (rest < wait_of far a r (g j)) → (rest < far → Wait a g (suc j) rs rest)
        → Wait a g j (r ∷ rs) (min (wait_of far a r (g j)) rest)
    go zero e (inl l) ih = absurd (let f : wait_of far a r (g j) ≡ far = rw e in omega (arith, f))
    go (suc c) e (inl l) ih =
        let f : wait_of far a r (g j) ≡ max a (wait_tick r (g j)) = ap (λ (n : ℕ). cond n far (max a (wait_tick r (g j)))) e in
        record { place = 0; some = omega arith; is = rw (add-zero j) (omega (arith, f)) }
    go c e (inr l) ih = later (min (wait_of far a r (g j)) rest) h refl (omega arith) ih

-- The same of deadlines that are not met.
pub lates-rest : (far a : ℕ) (g : ℕ → ℕ) (w : Who) (j : ℕ) (rs : List Row) (m : ℕ) → to_task w (j + m) ≡ 0 → 0 < (row_at rs m).cost
    → lates_of far a g w j rs ≤ late_clock (row_at rs m) (g (j + m))
unfolding lates_of
lates-rest far a g w j [] m z h = absurd (omega arith)
lates-rest far a g w j (r ∷ rs) zero z h =
    let f : to_task w j ≡ 0 = rw (add-zero j) at z in
    rw (add-zero j, f) (go r.cost refl)
  where
    go : (c : ℕ) → r.cost ≡ c → min (cond c far (late_clock r (g j))) (lates_of far a g w (suc j) rs) ≤ late_clock r (g j)
    go zero e = absurd (omega arith)
    go (suc c) e = omega arith
lates-rest far a g w j (r ∷ rs) (suc m) z h =
    let e : j + suc m ≡ suc j + m = omega arith in
    rw e (omega (arith, lates-rest far a g w (suc j) rs m (rw e at z) h))

run-meets : (far a : ℕ) (r : Row) (g y : ℕ) → y ≤ run_of far a r g → Meets r g a y
run-meets far a r g y l = go (r.cost * suc (jobs a r.deadline r.period) - (g + (due_after r.deadline r.period a - a))) refl l
  where
    go : (n : ℕ) → r.cost * suc (jobs a r.deadline r.period) - (g + (due_after r.deadline r.period a - a)) ≡ n
        → y ≤ cond n far (due_after r.deadline r.period a) → Meets r g a y
    go zero e h = inr (omega arith)
    go (suc n) e h = inl h

-- (A task that is not in the table has no work.)
pub lates-run : (far a : ℕ) (g : ℕ → ℕ) (w : Who) (j : ℕ) (rs : List Row) (m : ℕ) → to_task w (j + m) ≡ 1 → (y : ℕ)
    → y ≤ lates_of far a g w j rs → Meets (row_at rs m) (g (j + m)) a y
unfolding lates_of
lates-run far a g w j [] m z y h = inr (omega arith)
lates-run far a g w j (r ∷ rs) zero z y h =
    let f : to_task w j ≡ 1 = rw (add-zero j) at z in
    let q : y ≤ min (run_of far a r (g j)) (lates_of far a g w (suc j) rs) = rw f at h in
    rw (add-zero j) (run-meets far a r (g j) y (omega (arith, q)))
lates-run far a g w j (r ∷ rs) (suc m) z y h =
    let e : j + suc m ≡ suc j + m = omega arith in
    rw e (lates-run far a g w (suc j) rs m (rw e at z) y (omega arith))

pub data Late (a : ℕ) (g : ℕ → ℕ) (w : Who) (j : ℕ) (rs : List Row) (y : ℕ) : Type 0 where
  rests : (m : ℕ) → to_task w (j + m) ≡ 0 → 0 < (row_at rs m).cost → y ≡ late_clock (row_at rs m) (g (j + m)) → Late a g w j rs y
  runs : (m : ℕ) → to_task w (j + m) ≡ 1 → m < length rs → y ≡ due_after (row_at rs m).deadline (row_at rs m).period a
      → g (j + m) + (due_after (row_at rs m).deadline (row_at rs m).period a - a)
      < (row_at rs m).cost * suc (jobs a (row_at rs m).deadline (row_at rs m).period)
      → Late a g w j rs y

late-later : (a : ℕ) (g : ℕ → ℕ) (w : Who) (j : ℕ) (r : Row) (rs : List Row) (y : ℕ) → Late a g w (suc j) rs y → Late a g w j (r ∷ rs) y
late-later a g w j r rs y (rests m z h e) =
    let k : j + suc m ≡ suc j + m = omega arith in
    rests (suc m) (rw k z) h (rw k e)
late-later a g w j r rs y (runs m z l e h) =
    let k : j + suc m ≡ suc j + m = omega arith in
    runs (suc m) (rw k z) (omega arith) e (rw k h)

late-rests : (far a : ℕ) (g : ℕ → ℕ) (w : Who) (j : ℕ) (r : Row) (rs : List Row) → to_task w j ≡ 0 → rest_of far r (g j) < far
    → Late a g w j (r ∷ rs) (rest_of far r (g j))
late-rests far a g w j r rs z h = go r.cost refl h
  where
    go : (c : ℕ) → r.cost ≡ c → cond c far (late_clock r (g j)) < far → Late a g w j (r ∷ rs) (cond c far (late_clock r (g j)))
    go zero e h = absurd (omega arith)
    go (suc c) e h = rests 0 (rw (add-zero j) z) (omega arith) (rw (add-zero j))

late-runs : (far a : ℕ) (g : ℕ → ℕ) (w : Who) (j : ℕ) (r : Row) (rs : List Row) → to_task w j ≡ 1 → run_of far a r (g j) < far
    → Late a g w j (r ∷ rs) (run_of far a r (g j))
late-runs far a g w j r rs z h = go (need - have) refl h
  where
    D : ℕ
    D = due_after r.deadline r.period a

    need : ℕ
    need = r.cost * suc (jobs a r.deadline r.period)

    have : ℕ
    have = g j + (D - a)

    go : (n : ℕ) → need - have ≡ n → cond n far D < far → Late a g w j (r ∷ rs) (cond n far D)
    go zero e h = absurd (omega arith)
    go (suc n) e h = runs 0 (rw (add-zero j) z) (omega arith) refl (rw (add-zero j) (omega arith))

-- The task that is late first.
pub lates-found : (far a : ℕ) (g : ℕ → ℕ) (w : Who) (j : ℕ) (rs : List Row) → lates_of far a g w j rs < far
    → Late a g w j rs (lates_of far a g w j rs)
unfolding lates_of
lates-found far a g w j [] h = absurd (omega arith)
lates-found far a g w j (r ∷ rs) h = go (task-bit w j) (le-or-lt one rest) (λ l. lates-found far a g w (suc j) rs l)
  where
    rest : ℕ
    rest = lates_of far a g w (suc j) rs

    one : ℕ
    one = cond (to_task w j) (rest_of far r (g j)) (run_of far a r (g j))

    here : (y : ℕ) → one ≡ y → one ≤ rest → Late a g w j (r ∷ rs) y → Late a g w j (r ∷ rs) (min one rest)
    here y e l q = let f : min one rest ≡ y = omega arith in rw f q

    go : (to_task w j ≡ 0) ⊎ ((to_task w j ≡ 1) × (w ≡ task j)) → (one ≤ rest) ⊎ (rest < one) → (rest < far → Late a g w (suc j) rs rest)
        → Late a g w j (r ∷ rs) (min one rest)
    go b (inr l) ih = let f : min one rest ≡ rest = omega arith in rw f (late-later a g w j r rs rest (ih (omega arith)))
    go (inl z) (inl l) ih =
        let f : one ≡ rest_of far r (g j) = ap (λ (n : ℕ). cond n (rest_of far r (g j)) (run_of far a r (g j))) z in
        here (rest_of far r (g j)) f l (late-rests far a g w j r rs z (omega (arith, f)))
    go (inr z) (inl l) ih =
        let f : one ≡ run_of far a r (g j) = ap (λ (n : ℕ). cond n (rest_of far r (g j)) (run_of far a r (g j))) z.0 in
        here (run_of far a r (g j)) f l (late-runs far a g w j r rs z.0 (omega (arith, f)))
