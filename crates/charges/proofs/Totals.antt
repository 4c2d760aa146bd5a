-- Sums of whole periods and of rests (specs/Inside): row by row, and that they fit.
use mathlib.Core.List.{List, ◌∷◌}
use mathlib.Core.Path.{◌≡◌, sym}
use native.Mathlib.Nat.{mul-le-mul_right}
use native.Mathlib.Omega.{arith}
use lib.ListN.{length}
use Prim.Native.Nat.{ℕ, ◌+◌, ◌*◌, ◌/◌, ◌%◌, ◌≤◌, ◌<◌}
use Rattle.charges.specs.Inside.{way_cost, Usable, CanCharge, periods_by, rest_by, periods_most, SumsSay}
use Rattle.charges.specs.declared.ways.Sums.{Sums}
use Rattle.charges.specs.declared.ways.Way.{Way}
use Rattle.charges.proofs.Growth.{grown-most, periods-most}
use Rattle.charges.proofs.WholePeriods.{rest-most}
use Rattle.demand.specs.Refusals.{FairRow}
use Rattle.demand.specs.Rows.{Row, tasks_of, width, rest, Each, total}
use Rattle.demand.specs.declared.table.Kind.TheVariants.{Task}
use Rattle.demand.proofs.Inside.Slices.{from, total-short, total_head}
use Rattle.demand.proofs.Sums.{each_map, total-most}

-- No row is left.
pub sums-short : (g : Row → ℕ) (h : ℕ) (s : List ℕ) → length s < width Task → SumsSay g h (tasks_of s) (record { periods = 0; rest = 0 })
sums-short g h s short = record {
  periods = sym (total-short Task s short (periods_by g));
  rest = sym (total-short Task s short (rest_by g h));
}

-- One row, whose grown cost is in hand, and those behind it.
pub sums-head : (g : Row → ℕ) (h : ℕ) (s : List ℕ) (r : Row) → tasks_of s ≡ r ∷ tasks_of (rest Task s) → (n : ℕ) → n ≡ width Task
    → (cost : ℕ) (later : Sums) → cost ≡ g r → SumsSay g h (tasks_of (from n s)) later
    → SumsSay g h (tasks_of s) (record {
      periods = cost / r.period + later.periods;
      rest = cost % r.period * (h / r.period) + later.rest;
    })
sums-head g h s r e n w cost later is says = record {
  periods = rw is (total_head Task s r e n w (periods_by g) _ says.periods);
  rest = rw is (total_head Task s r e n w (rest_by g h) _ says.rest);
}

module _ (way : Way) (hs : List Row) (usable : Usable way) (can : CanCharge hs) (ts : List Row) (fair : Each FairRow ts) (few : length ts ≤ 64) where
  -- All whole periods fit.
  pub periods-total : total (periods_by (way_cost way hs)) ts ≤ 64 * periods_most
  periods-total =
      omega (
        arith,
        total-most periods_most (periods_by (way_cost way hs)) ts
            (each_map (λ r f. periods-most (way_cost way hs r) r.period (grown-most way hs r usable can f)) ts fair),
        mul-le-mul_right periods_most few,
      )

  -- So do all rests: each is less than h.
  pub rest-total : (h : ℕ) → total (rest_by (way_cost way hs) h) ts ≤ 64 * h
  rest-total h =
      omega (
        arith,
        total-most h (rest_by (way_cost way hs) h) ts
            (each_map (λ r f. rest-most (way_cost way hs r) r.period h f.period.least) ts fair),
        mul-le-mul_right h few,
      )
