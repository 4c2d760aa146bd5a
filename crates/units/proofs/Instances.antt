-- Both theorems in numbers (02, M-104), so that one that was weakened by a slip no longer gives them: case 9 in ticks ten times as fine and
-- with its tasks swapped, a yes, work left over; and why a task is not to be swapped with a handler.
use mathlib.Core.Bool.{true}
use mathlib.Core.List.{List, [], ◌∷◌}
use mathlib.Core.Path.{◌≡◌, refl, ap, sym}
use native.Mathlib.Omega.{arith}
use Prim.Native.Nat.{ℕ}
use Rattle.std.specs.Prelude.{Result, Ok}
use Rattle.demand.specs.Demands.{grow, taken, called, handled, left, due}
use Rattle.demand.specs.Multiples.{lcm_from}
use Rattle.demand.specs.Refusals.{table_tests}
use Rattle.demand.specs.Rows.{tasks_of, handlers_of, total, some}
use Rattle.demand.specs.Tests.{first_refusal}
use Rattle.demand.specs.declared.refusal.Refusal.{Refusal}
use Rattle.euclid.specs.Euclid.{gcd, lcm, euclid}
use Rattle.verdict.specs.Cases.{Case, EveryCase}
use Rattle.verdict.specs.Facts.{bound}
use Rattle.verdict.specs.Idle.{asks}
use Rattle.verdict.specs.Inside.Search.{end_by, search_end}
use Rattle.verdict.specs.Loads.{work, whole, costs, slack, millionths, load}
use Rattle.verdict.specs.Multiples.{common}
use Rattle.verdict.specs.Promise.{figures, yes_of, no_of, verdict_refusal, VerdictSays}
use Rattle.verdict.specs.Promise.Word.{fits, misses}
use Rattle.verdict.specs.Tested.{tested, yes_end_by, yes_end}
use Rattle.verdict.specs.declared.Answer.{Answer}
use Rattle.verdict.specs.declared.Answer.TheVariants.{Fits, Misses}
use Rattle.verdict.specs.declared.Miss.{Miss}
use Rattle.verdict.proofs.Cases as cases
use Rattle.verdict.proofs.Cases.{alike, short, drain, idled, idle_facts, facts, expected, beside, holds, all_hold, every-case}
use Rattle.units.specs.Finer.{times}
use Rattle.units.specs.FinerTicks.{figures_times, FinerTicks}
use Rattle.units.specs.Orders.Shuffled.{nothing, same, swapped}
use Rattle.units.specs.OtherOrder.{OtherOrder}
use Rattle.units.proofs.FinerTicks.{finer-ticks}
use Rattle.units.proofs.OtherOrder.{other-order}

-- ---- the tables, in old ticks

-- in the line's order
abbrev miss : ℕ → ℕ → ℕ → ℕ → ℕ → Miss
miss interval handler task over count = record { interval = interval; handler = handler; task = task; left = over; tested = count }

abbrev table : List ℕ → List ℕ → Result Answer Refusal → Case
table t h r = record { tasks = t; handlers = h; sheet = figures r; beside = [] }

-- case 9: tasks 2/5 and 4/8, handler 1/4
abbrev tasks-9 : List ℕ
tasks-9 = 2 ∷ 5 ∷ 5 ∷ 4 ∷ 8 ∷ 8 ∷ []

abbrev handlers-9 : List ℕ
handlers-9 = 1 ∷ 4 ∷ []

-- case 9, case 6, case 5, the last with its task and its handler swapped, and a handler that leaves work over (M-106)
unfoldable tables : List Case
tables =
    table tasks-9 handlers-9 (Ok (Misses (miss 10 3 8 0 3) 1150000))
    ∷ table (1 ∷ 3 ∷ 3 ∷ []) (2 ∷ 10 ∷ []) (Ok (Fits 533334 1))
    ∷ table (1 ∷ 2 ∷ 2 ∷ []) (2 ∷ 10 ∷ []) (Ok (Misses (miss 2 2 1 0 1) 700000))
    ∷ table (2 ∷ 10 ∷ 10 ∷ []) (1 ∷ 2 ∷ []) (Ok (Fits 700000 0))
    ∷ table (1 ∷ 2 ∷ 2 ∷ []) (5 ∷ 10 ∷ []) (Ok (Misses (miss 2 2 1 3 1) 1000000))
    ∷ []

all-hold : all_hold tables ≡ true
unfolding
    all_hold tables figures holds cases.same facts alike expected beside idle_facts drain idled asks tested yes_end yes_end_by short search_end bound end_by
    verdict_refusal first_refusal table_tests load whole work costs slack millionths common lcm_from lcm gcd euclid handled called left taken grow due
    total some tasks_of handlers_of
all-hold = refl

tables-hold : EveryCase tables
tables-hold = every-case tables all-hold

says-9 : VerdictSays tasks-9 handlers-9 (Ok (Misses (miss 10 3 8 0 3) 1150000))
unfolding VerdictSays tables
says-9 = tables-hold.0.holds

says-6 : VerdictSays (1 ∷ 3 ∷ 3 ∷ []) (2 ∷ 10 ∷ []) (Ok (Fits 533334 1))
unfolding VerdictSays tables
says-6 = tables-hold.1.0.holds

says-over : VerdictSays (1 ∷ 2 ∷ 2 ∷ []) (5 ∷ 10 ∷ []) (Ok (Misses (miss 2 2 1 3 1) 1000000))
unfolding VerdictSays tables
says-over = tables-hold.1.1.1.1.0.holds

-- ---- ten times as fine

-- Case 9 times 10: tasks 20/50 and 40/80, handler 10/40, misses at 100 with 30 and 80, as many lengths tested, the same load.
pub nine-finer : (s : Result Answer Refusal) → VerdictSays (20 ∷ 50 ∷ 50 ∷ 40 ∷ 80 ∷ 80 ∷ []) (10 ∷ 40 ∷ []) s → figures s ≡ no_of (miss 100 30 80 0 3) 1150000
unfolding FinerTicks figures_times times figures verdict_refusal first_refusal table_tests common lcm_from lcm gcd euclid total some tasks_of handlers_of
nine-finer s = finer-ticks 10 tasks-9 handlers-9 (Ok (Misses (miss 10 3 8 0 3) 1150000)) s (omega arith) refl refl says-9

-- A yes stays one, with its load and its count.
pub six-finer : (s : Result Answer Refusal) → VerdictSays (10 ∷ 30 ∷ 30 ∷ []) (20 ∷ 100 ∷ []) s → figures s ≡ yes_of 533334 1
unfolding FinerTicks figures_times times figures verdict_refusal first_refusal table_tests common lcm_from lcm gcd euclid total some tasks_of handlers_of
six-finer s = finer-ticks 10 (1 ∷ 3 ∷ 3 ∷ []) (2 ∷ 10 ∷ []) (Ok (Fits 533334 1)) s (omega arith) refl refl says-6

-- What is left over is ten times as much.
pub over-finer : (s : Result Answer Refusal) → VerdictSays (10 ∷ 20 ∷ 20 ∷ []) (50 ∷ 100 ∷ []) s → figures s ≡ no_of (miss 20 20 10 30 1) 1000000
unfolding FinerTicks figures_times times figures verdict_refusal first_refusal table_tests common lcm_from lcm gcd euclid total some tasks_of handlers_of
over-finer s = finer-ticks 10 (1 ∷ 2 ∷ 2 ∷ []) (5 ∷ 10 ∷ []) (Ok (Misses (miss 2 2 1 3 1) 1000000)) s (omega arith) refl refl says-over

-- ---- in another order

-- Case 9 with its tasks swapped: the same line.
pub nine-swapped : (s : Result Answer Refusal) → VerdictSays (4 ∷ 8 ∷ 8 ∷ 2 ∷ 5 ∷ 5 ∷ []) handlers-9 s → figures s ≡ no_of (miss 10 3 8 0 3) 1150000
unfolding OtherOrder figures tasks_of handlers_of
nine-swapped s says =
    ap figures (sym (other-order tasks-9 handlers-9 (4 ∷ 8 ∷ 8 ∷ 2 ∷ 5 ∷ 5 ∷ []) handlers-9 (Ok (Misses (miss 10 3 8 0 3) 1150000)) s swapped refl (same nothing) refl says-9 says))

-- Task 1/2 and handler 2/10 miss; task 2/10 and handler 1/2 fit: only within tasks and within handlers are rows to be reordered.
pub five-misses : (s : Result Answer Refusal) → VerdictSays (1 ∷ 2 ∷ 2 ∷ []) (2 ∷ 10 ∷ []) s → (figures s).word ≡ misses
unfolding tables figures
five-misses s says = ap (λ g. g.word) (tables-hold.1.1.0.only s says)

pub exchanged-fits : (s : Result Answer Refusal) → VerdictSays (2 ∷ 10 ∷ 10 ∷ []) (1 ∷ 2 ∷ []) s → (figures s).word ≡ fits
unfolding tables figures
exchanged-fits s says = ap (λ g. g.word) (tables-hold.1.1.1.0.only s says)
