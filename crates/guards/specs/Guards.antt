-- Guarded interrupts (02, M-107; document 004, section 5.2): what the guard of a device costs, from measured tick counts.
--   interrupt_cost g   == the cost of its interrupt row: of one interrupt where the guard is strict, of a burst of n where it is bursty
--   timer_cost g       == that of its timer row
--   gap_of g           == the period of both: the gap between interrupts, or between bursts
--   burst_most         == the most interrupts of a burst
--   burst_outside g    == the test of 14
--   handler_row c p    == the handler row c/p
--   rows_outside i t p == the test of 3, of the rows i/p and t/p
--   guard_tests g      == both tests, each with its number: 14, 3
--   guard_refusal g    == the number of its refusal, 0 for none
use Rattle.std.specs.Prelude.{Bool, false, ◌||◌, List, [], ◌∷◌, ℕ, ◌+◌, ◌*◌, eqb, ltb}
use Rattle.demand.specs.Refusals.{row_outside}
use Rattle.demand.specs.Rows.{Row}
use Rattle.demand.specs.Tests.{first_refusal}
use Rattle.guards.specs.declared.Guard.{Guard}
use Rattle.guards.specs.declared.Guard.TheVariants.{Strict, Bursty}

abbrev pub interrupt_cost : Guard → ℕ
interrupt_cost (Strict int flip setup work expire gap) = int + flip + setup + work
interrupt_cost (Bursty n int flip work expire count clear gap) = n * (int + work + count) + flip

abbrev pub timer_cost : Guard → ℕ
timer_cost (Strict int flip setup work expire gap) = expire + flip
timer_cost (Bursty n int flip work expire count clear gap) = expire + clear + flip

abbrev pub gap_of : Guard → ℕ
gap_of (Strict int flip setup work expire gap) = gap
gap_of (Bursty n int flip work expire count clear gap) = gap

abbrev pub burst_most : ℕ
burst_most = 1000

-- 14: N out of range
abbrev pub burst_outside : Guard → Bool
burst_outside (Strict int flip setup work expire gap) = false
burst_outside (Bursty n int flip work expire count clear gap) = eqb n 0 || ltb burst_most n

-- a handler row of this cost and this period
abbrev pub handler_row : ℕ → ℕ → Row
handler_row c p = record { cost = c; period = p; deadline = p }

-- 3: a resulting row out of range
abbrev pub rows_outside : ℕ → ℕ → ℕ → Bool
rows_outside interrupt timer period = row_outside (handler_row interrupt period) || row_outside (handler_row timer period)

unfoldable pub guard_tests : Guard → List (ℕ × Bool)
guard_tests g = (14, burst_outside g) ∷ (3, rows_outside (interrupt_cost g) (timer_cost g) (gap_of g)) ∷ []

unfoldable pub guard_refusal : Guard → ℕ
guard_refusal g = first_refusal (guard_tests g)
