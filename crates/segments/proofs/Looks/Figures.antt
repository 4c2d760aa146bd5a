-- What a look at one row works out, in the code's own form, and that its numbers fit a word.
use mathlib.Core.Path.{◌≡◌, refl, sym, ap, ◌∙◌}
use native.Mathlib.Nat.{mul-le-mul, div-le_self}
use native.Mathlib.Numerals.{add-one}
use native.Mathlib.Omega.{arith}
use Prim.Native.Nat.{ℕ, zero, suc, ◌+◌, ◌-◌, ◌*◌, ◌/◌, ◌≤◌, ◌<◌, max}
use Rattle.std.specs.Int.{div_ceil}
use Rattle.demand.specs.Demands.{ceil}
use Rattle.demand.specs.Rows.{Row, Sound}
use Rattle.demand.proofs.Divide.{jobs, ceil-le, jobs-mul-le, jobs-above, div_ceil-ceil}
use Rattle.segments.specs.Inside.{cond, wait_tick, due_after, lapse_at, lapse_tick, heavy_lapse, lapse_of, run_of, Looked}

-- ---- choices

-- Where the number is 0,
pub cond-none : (n u v : ℕ) → n ≡ 0 → cond n u v ≡ u
cond-none zero u v e = refl
cond-none (suc n) u v e = absurd (omega arith)

-- and where it is not.
pub cond-some : (n u v : ℕ) → 0 < n → cond n u v ≡ v
cond-some zero u v h = absurd (omega arith)
cond-some (suc n) u v h = refl

-- ---- sizes

module _ (r : Row) (g a : ℕ) (ok : Looked r g a) where
  -- The tick from which on a row waits.
  pub wait-most : wait_tick r g ≤ 1000000000000000
  wait-most = omega (arith, mul-le-mul (div-le_self g r.cost) ok.fair.period.most, ok.given)

  -- Calls up to a tick.
  pub calls-most : ceil (suc a) r.period ≤ 1000000001
  calls-most = omega (arith, ceil-le r.period (suc a) ok.fair.period.least, ok.start)

  -- Their work, and so the work of fewer.
  pub work-most : (n : ℕ) → n ≤ 1000000001 → r.cost * n ≤ 1000000001000000
  work-most n h = omega (arith, mul-le-mul ok.fair.cost.most h)

  -- Calls, each at its period.
  pub periods-most : (n : ℕ) → n ≤ 1000000001 → n * r.period ≤ 1000000001000000
  periods-most n h = omega (arith, mul-le-mul h ok.fair.period.most)

  -- The arrival that finds all earlier work done.
  pub lapse-most : lapse_at r.cost r.period g a ≤ 1000000001
  lapse-most = omega (arith, calls-most, div-le_self (a - g) (r.period - r.cost), ok.start)

  module _ (sound : Sound r) where
    -- Jobs that are due by a, and their periods.
    pub jobs-most : jobs a r.deadline r.period ≤ 1001000000
    jobs-most = omega (arith, div-le_self (a + (r.period - r.deadline)) r.period, ok.start, ok.fair.period.most)

    -- The last of their deadlines.
    pub due-most : jobs a r.deadline r.period * r.period ≤ 1001000000
    due-most = omega (arith, jobs-mul-le a r.deadline r.period, ok.start, ok.fair.period.most)

    -- The next lies behind a.
    pub due-behind : a < due_after r.deadline r.period a
    due-behind = omega (arith, jobs-above a r.deadline r.period ok.fair.period.least sound.fits)

    -- Work up to it.
    pub next-work-most : r.cost * (jobs a r.deadline r.period + 1) ≤ 2000000000000000
    next-work-most =
        let more : jobs a r.deadline r.period + 1 ≤ 2000000000 = omega (arith, jobs-most) in
        omega (arith, mul-le-mul ok.fair.cost.most more)

-- ---- a task that runs

module _ (far a g : ℕ) (r : Row) where
  -- Not done by its first deadline behind a.
  pub run_short : g + (due_after r.deadline r.period a - a) < r.cost * (jobs a r.deadline r.period + 1)
      → due_after r.deadline r.period a ≡ run_of far a r g
  run_short h =
      let n = jobs a r.deadline r.period in
      sym (cond-some (r.cost * suc n - (g + (due_after r.deadline r.period a - a))) far (due_after r.deadline r.period a)
      (omega (arith, rw (add-one n) at h)))

  -- Done by then.
  pub run-met : r.cost * (jobs a r.deadline r.period + 1) ≤ g + (due_after r.deadline r.period a - a) → far ≡ run_of far a r g
  run-met h =
      let n = jobs a r.deadline r.period in
      sym (cond-none (r.cost * suc n - (g + (due_after r.deadline r.period a - a))) far (due_after r.deadline r.period a)
      (omega (arith, rw (add-one n) at h)))

-- ---- a row that is given every tick

-- Calls up to tick a, as the code counts them.
pub calls_is : (a p n : ℕ) → 0 < p → n ≡ div_ceil (a + 1) p → n ≡ ceil (suc a) p
calls_is a p n some e = e ∙ div_ceil-ceil (a + 1) p some ∙ ap (λ (n : ℕ). (n + (p - 1)) / p) (add-one a)

module _ (far a c p g : ℕ) (pos : 0 < p) where
  -- Of a cost below the period,
  pub lapse-light : c < p → lapse_tick c p g a ≡ lapse_of far a c p g
  lapse-light h = sym (cond-some p a _ pos ∙ cond-some (p - c) _ _ (omega arith))

  -- and of any other.
  pub lapse-heavy : p ≤ c → heavy_lapse far a c p g ≡ lapse_of far a c p g
  lapse-heavy h = sym (cond-some p a _ pos ∙ cond-none (p - c) _ _ (omega arith))

  -- The arrival that finds all earlier work done, from the numbers in hand.
  pub last-read : (x n m : ℕ) → x ≡ a - g → n ≡ ceil (suc a) p → m ≡ max n (x / (p - c) + 1) → m ≡ lapse_at c p g a
  last-read x n m ex en em = em ∙ (rw (ex, en, add-one ((a - g) / (p - c))) refl)

  -- A heavy row's work ends before the next arrival, or lasts.
  pub heavy-short : (n : ℕ) → n ≡ ceil (suc a) p → a + c * n < n * p + g → a + (c * n - g) ≡ heavy_lapse far a c p g
  heavy-short n e h =
      let q : a + c * ceil (suc a) p < ceil (suc a) p * p + g = rw e at h in
      rw e (sym (cond-some (ceil (suc a) p * p + g - (a + c * ceil (suc a) p)) far (a + (c * ceil (suc a) p - g)) (omega (arith, q))))

  -- Work that lasts to the next arrival.
  pub heavy-lasts : (n : ℕ) → n ≡ ceil (suc a) p → n * p + g ≤ a + c * n → far ≡ heavy_lapse far a c p g
  heavy-lasts n e h =
      let q : ceil (suc a) p * p + g ≤ a + c * ceil (suc a) p = rw e at h in
      sym (cond-none (ceil (suc a) p * p + g - (a + c * ceil (suc a) p)) far (a + (c * ceil (suc a) p - g)) (omega (arith, q)))
