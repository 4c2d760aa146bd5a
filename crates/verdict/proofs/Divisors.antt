-- Laws of H, the least common multiple of all periods (specs/Multiples), and H of a table in range as the code finds it.
use mathlib.Core.List.{List}
use mathlib.Core.Path.{◌≡◌, ap, ◌∙◌}
use native.Mathlib.Nat.{dvd_trans, one-dvd, le_of_dvd}
use native.Mathlib.Omega.{arith}
use borrow.Author.Tests.{lt-ltb}
use Prim.Native.Nat.{ℕ, ◌≤◌, ◌<◌, ◌∣◌}
use Rattle.std.specs.Prelude.{Option, None, Some}
use Rattle.demand.specs.Limits.{ticks_most}
use Rattle.demand.specs.Multiples.{lcm_from, limited, Divided}
use Rattle.demand.specs.Refusals.{table_refusal}
use Rattle.demand.specs.Rows.{Row, Positive, tasks_of, handlers_of}
use Rattle.demand.proofs.Inside.Sizes.{tasks-valid, handlers-positive}
use Rattle.demand.proofs.Periods.{lcm-from-positive, lcm-from-start, lcm-from-rows, lcm-from-least, lcm-from-le, limited-none, limited-some}
use Rattle.demand.proofs.Sums.{each_map, valid-positive}
use Rattle.verdict.specs.Multiples.{common, CommonLeast}

pub common-positive : (ts hs : List Row) → Positive ts → Positive hs → 0 < common ts hs
unfolding common
common-positive ts hs pt ph = lcm-from-positive (lcm_from 1 ts) hs (lcm-from-positive 1 ts (omega arith) pt) ph

pub common-tasks : (ts hs : List Row) → Divided (common ts hs) ts
unfolding common
common-tasks ts hs = each_map (λ r d. dvd_trans r.period d (lcm-from-start (lcm_from 1 ts) hs)) ts (lcm-from-rows 1 ts)

pub common-handlers : (ts hs : List Row) → Divided (common ts hs) hs
unfolding common
common-handlers ts hs = lcm-from-rows (lcm_from 1 ts) hs

pub period-divides : (ts hs : List Row) (n : ℕ) → Positive ts → Positive hs → Divided n ts → Divided n hs → common ts hs ∣ n
unfolding common
period-divides ts hs n pt ph dt dh =
    lcm-from-least (lcm_from 1 ts) n hs (lcm-from-positive 1 ts (omega arith) pt) ph (lcm-from-least 1 n ts (omega arith) pt (one-dvd n) dt) dh

pub common-least : CommonLeast
common-least ts hs pt ph = record {
  positive = common-positive ts hs pt ph;
  tasks = common-tasks ts hs;
  handlers = common-handlers ts hs;
  least = λ n pos dt dh. le_of_dvd pos (period-divides ts hs n pt ph dt dh);
}

-- ---- H of a table in range, from the tasks' multiple

module _ (t h : List ℕ) (e : table_refusal t h ≡ 0) where
  -- The tasks' multiple above the limit: H is too.
  pub common-over : None ≡ limited (lcm_from 1 (tasks_of t)) → None ≡ limited (common (tasks_of t) (handlers_of h))
  unfolding common
  common-over none =
      let some : 0 < lcm_from 1 (tasks_of t) = lcm-from-positive 1 (tasks_of t) (omega arith) (valid-positive (tasks_of t) (tasks-valid t h e)) in
      let over : ticks_most < lcm_from 1 (tasks_of t) = limited-none (lcm_from 1 (tasks_of t)) none in
      let whole = lcm-from-le (lcm_from 1 (tasks_of t)) (handlers_of h) some (handlers-positive t h e) in
      rw (lt-ltb ticks_most (lcm_from (lcm_from 1 (tasks_of t)) (handlers_of h)) (omega (arith, whole)))

  module _ (a : ℕ) (ea : Some a ≡ limited (lcm_from 1 (tasks_of t))) where
    pub tasks-multiple : (0 < a) × (a ≤ ticks_most)
    tasks-multiple =
        let c = limited-some (lcm_from 1 (tasks_of t)) a ea in
        let some : 0 < lcm_from 1 (tasks_of t) = lcm-from-positive 1 (tasks_of t) (omega arith) (valid-positive (tasks_of t) (tasks-valid t h e)) in
        (omega (arith, c.0, some), omega (arith, c.0, c.1))

    pub common-read : (r : Option ℕ) → r ≡ limited (lcm_from a (handlers_of h)) → r ≡ limited (common (tasks_of t) (handlers_of h))
    unfolding common
    common-read r er = er ∙ ap (λ (m : ℕ). limited (lcm_from m (handlers_of h))) (limited-some (lcm_from 1 (tasks_of t)) a ea).0
