-- A common multiple H of the periods, and W, the work of all rows over it: W at most H ends a search, W above H fails.
use mathlib.Core.List.{List, [], ◌∷◌}
use mathlib.Core.Logic.{◌⊎◌, inl, inr}
use mathlib.Core.Path.{◌≡◌}
use native.Mathlib.Nat.{mul-le-mul_left, le_of_mul-le-mul_left, le-div_iff_mul-le, le_of_dvd}
use native.Mathlib.Omega.{arith}
use lib.ListN.{length}
use Prim.Native.Nat.{ℕ, zero, suc, ◌+◌, ◌*◌, ◌/◌, ◌≤◌, ◌<◌}
use Rattle.demand.specs.Demands.{called, handled, due, Fails}
use Rattle.demand.specs.Refusals.{FairRow}
use Rattle.demand.specs.Rows.{Row, Each, Positive, Valid}
use Rattle.demand.proofs.Demands.{handled-le-called, handled-next}
use Rattle.demand.proofs.Divide.{le-or-lt}
use Rattle.demand.proofs.Sums.{valid-positive}
use Rattle.verdict.specs.Loads.{work, costs, slack}
use Rattle.demand.specs.Multiples.{Divided}
use Rattle.verdict.proofs.Facts.Drain.{Drains}
use Rattle.verdict.proofs.Loads.{work-cons}
use Rattle.verdict.proofs.Facts.Shares.{work-le-due, work-sub, called-whole, work-share, due-share, called-share, called-le-work}

-- Some task has work within a common multiple of the periods.
pub work-some : (H : ℕ) (ts : List Row) → 0 < H → Each FairRow ts → Divided H ts → 1 ≤ length ts → 0 < work H ts
work-some H [] pos fair d some = absurd (omega arith)
work-some H (t ∷ ts) pos fair d some =
    let one : 1 ≤ H / t.period = (le-div_iff_mul-le {x = 1} fair.0.period.least).1 (omega (arith, le_of_dvd pos d.0)) in
    omega (arith, work-cons H t ts, mul-le-mul_left t.cost one, fair.0.cost.least)

module _ (ts hs : List Row) (pt : Valid ts) (ph : Positive hs) (H : ℕ) (pos : 0 < H) (dt : Divided H ts) (dh : Divided H hs) where
  -- W at most H: H is a drain point.
  pub light-drains : work H ts + work H hs ≤ H → Drains ts hs H
  light-drains light = record { positive = pos; room = omega (arith, called-whole H ts (valid-positive ts pt) dt, called-whole H hs ph dh) }

  -- A failing length is short: l * H < l * W + E * H and what short deadlines add.
  pub fails-short : (l : ℕ) → Fails ts hs l → l * H < l * (work H ts + work H hs) + (costs hs * H + slack H ts)
  fails-short l fails =
      let up : suc l ≤ work l hs + costs hs + due ts l = omega (arith, handled-le-called hs l, called-le-work l hs ph) in
      omega (arith, mul-le-mul_left H up, due-share H l ts pt dt, work-share H l hs ph dh)

  -- Handlers that ask for all ticks of H, or more, take every tick.
  handled-all : H ≤ work H hs → (l : ℕ) → l ≤ handled hs l
  handled-all heavy zero = omega arith
  handled-all heavy (suc l) =
      let share : H * suc l ≤ H * called hs (suc l) = omega (arith, mul-le-mul_left (suc l) heavy, called-share H (suc l) hs ph dh) in
      let asked : suc l ≤ called hs (suc l) = le_of_mul-le-mul_left share pos in
      omega (arith, handled-all heavy l, handled-next hs l)

  -- Handlers that ask for no more than the ticks of H never ask for more than the ticks.
  work-fits : work H hs ≤ H → (x : ℕ) → work x hs ≤ x
  work-fits fits x =
      let share : H * work x hs ≤ H * x = omega (arith, work-share H x hs ph dh, mul-le-mul_left x fits) in
      le_of_mul-le-mul_left share pos

  -- So by tick s of H they have taken all that they ask for within H but for k ticks, those behind s.
  handled-by : work H hs ≤ H → (s k : ℕ) → s + k ≡ H → work H hs ≤ handled hs s + k
  handled-by fits zero k e = omega arith
  handled-by fits (suc s) k e =
      let parts : work H hs ≤ called hs (suc s) + work k hs = rw e at (work-sub hs ph (suc s) k) in
      omega (arith, handled-by fits s (suc k) (omega arith), work-fits fits k, handled-next hs s)

  -- W above H, and some task has work: the length H fails.
  pub heavy-fails : H < work H ts + work H hs → 0 < work H ts → Fails ts hs H
  heavy-fails heavy some = go (le-or-lt (work H hs) H)
    where
      go : (work H hs ≤ H) ⊎ (H < work H hs) → Fails ts hs H
      go (inl fits) = omega (arith, handled-by fits H 0 (omega arith), work-le-due H ts pt)
      go (inr more) = omega (arith, handled-all (omega arith) H, work-le-due H ts pt)
