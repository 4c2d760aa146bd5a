-- What a readable table is (01, "Tables and figures"): each figure lies in its range, and H too.
use mathlib.Core.Bool.{Bool}
use mathlib.Core.List.{List, [], ◌∷◌}
use mathlib.Core.Path.{◌≡◌, refl, ◌∙◌}
use native.Mathlib.Omega.{arith}
use borrow.Author.Tests.{ltb-false, lt-ltb, le-ltb}
use lib.Dec.{ltb}
use Prim.Native.Nat.{ℕ, ◌≤◌, ◌<◌}
use Rattle.demand.specs.Limits.{ticks_most}
use Rattle.demand.specs.Refusals.{table_refusal, InRange}
use Rattle.demand.specs.Rows.{tasks_of, handlers_of}
use Rattle.demand.specs.Tests.{first_refusal}
use Rattle.demand.specs.Inside.Sizes.{Small}
use Rattle.demand.proofs.Inside.Sizes.{fair-positive}
use Rattle.demand.proofs.Chains.{none_first}
use Rattle.demand.proofs.Refusals.{refusal-in-range, later-refusal, table-refusal, both-none, one-test}
use Rattle.verdict.specs.Multiples.{common}
use Rattle.verdict.specs.Promise.{verdict_refusal}
use Rattle.verdict.proofs.Divisors.{common-positive}

-- 4, behind the table's own tests
abbrev own : List ℕ → List ℕ → List (ℕ × Bool)
own t h = (4, ltb ticks_most (common (tasks_of t) (handlers_of h))) ∷ []

module _ (t h : List ℕ) (readable : verdict_refusal t h ≡ 0) where
  none : (table_refusal t h ≡ 0) × (first_refusal (own t h) ≡ 0)
  unfolding verdict_refusal
  none = both-none t h (own t h) readable

  pub readable-table : table_refusal t h ≡ 0
  readable-table = none.0

  pub readable-in-range : InRange (tasks_of t) (handlers_of h)
  readable-in-range = refusal-in-range t h none.0

  pub readable-common : common (tasks_of t) (handlers_of h) ≤ ticks_most
  readable-common = ltb-false ticks_most (common (tasks_of t) (handlers_of h)) (none_first (own t h) refl none.1).0

  pub readable-positive : 0 < common (tasks_of t) (handlers_of h)
  readable-positive = common-positive (tasks_of t) (handlers_of h) (fair-positive (tasks_of t) readable-in-range.tasks) (fair-positive (handlers_of h) readable-in-range.handlers)

  pub common-small : (m : ℕ) → m ≡ common (tasks_of t) (handlers_of h) → (0 < m) × Small (tasks_of t) m × Small (handlers_of h) m
  common-small m e =
      let fair = readable-in-range in
      let short : m ≤ ticks_most = omega (arith, e, readable-common) in (
        omega (arith, e, readable-positive),
        record { rows = fair.tasks; count = fair.tasks-most; ticks = short },
        record { rows = fair.handlers; count = omega (arith, fair.handlers-most); ticks = short },
      )

-- And the reverse.
pub readable-zero : (t h : List ℕ) → table_refusal t h ≡ 0 → common (tasks_of t) (handlers_of h) ≤ ticks_most → verdict_refusal t h ≡ 0
unfolding verdict_refusal
readable-zero t h e short =
    later-refusal t h (own t h) e ∙ rw (one-test 4 (ltb ticks_most (common (tasks_of t) (handlers_of h))), le-ltb ticks_most (common (tasks_of t) (handlers_of h)) short)

-- Refusal 4, and the table's own.
pub refused-4 : (t h : List ℕ) → table_refusal t h ≡ 0 → ticks_most < common (tasks_of t) (handlers_of h) → verdict_refusal t h ≡ 4
unfolding verdict_refusal
refused-4 t h e long = later-refusal t h (own t h) e ∙ rw (one-test 4 (ltb ticks_most (common (tasks_of t) (handlers_of h))), lt-ltb ticks_most (common (tasks_of t) (handlers_of h)) long)

pub refused-table : (t h : List ℕ) → 0 < table_refusal t h → verdict_refusal t h ≡ table_refusal t h
unfolding verdict_refusal
refused-table t h some = table-refusal t h (own t h) some
