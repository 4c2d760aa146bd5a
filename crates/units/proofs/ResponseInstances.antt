-- Both theorems of least lengths in numbers (02, M-104): case 9 and a yes by priority in ticks ten times as fine, case 9 with its tasks
-- swapped; and why tasks of one period are not to be exchanged.
use mathlib.Core.List.{List, [], ◌∷◌}
use mathlib.Core.Path.{◌≡◌, refl, ap, sym}
use native.Mathlib.Omega.{arith}
use lib.ListN.{length, get_or}
use Prim.Native.Nat.{ℕ, ◌<◌}
use Rattle.std.specs.Prelude.{Result, Ok}
use Rattle.demand.specs.Limits.{tasks_most}
use Rattle.demand.specs.Refusals.{table_refusal, table_tests}
use Rattle.demand.specs.Rows.{tasks_of, handlers_of, some}
use Rattle.demand.specs.Tests.{first_refusal}
use Rattle.demand.specs.declared.refusal.Refusal.{Refusal}
use Rattle.priority.specs.Answers.{Figures, figures, figures_by, ResponsesSay}
use Rattle.priority.specs.Cases.{cases}
use Rattle.priority.specs.Responses.{listed, listed_from}
use Rattle.priority.proofs.Answers.{found-says}
use Rattle.priority.proofs.Cases.{cases-hold}
use Rattle.units.specs.Finer.{times}
use Rattle.units.specs.Orders.{Exchanged, went_to}
use Rattle.units.specs.Orders.Exchanged.{exchanged}
use Rattle.units.specs.Orders.Shuffled.{nothing, same}
use Rattle.units.specs.Responses.{responses_times, FinerResponses, OwnResponse}
use Rattle.units.proofs.FinerResponses.{finer-responses}
use Rattle.units.proofs.OwnResponse.{own-response}

-- ---- the tables, in old ticks

-- the least lengths of the first tasks, 0 past them
abbrev lengths : List ℕ → List ℕ
lengths ls = listed (λ i. get_or ls i 0) tasks_most

abbrev profile : List ℕ → Result (List ℕ) Refusal
profile ls = Ok (lengths ls)

-- case 9: tasks 2/5 and 4/8, handler 1/4
abbrev tasks-9 : List ℕ
tasks-9 = 2 ∷ 5 ∷ 5 ∷ 4 ∷ 8 ∷ 8 ∷ []

abbrev handlers-9 : List ℕ
handlers-9 = 1 ∷ 4 ∷ []

says-9 : ResponsesSay tasks-9 handlers-9 (profile (3 ∷ 0 ∷ []))
unfolding cases figures_by table_refusal table_tests first_refusal some tasks_of handlers_of
says-9 =
    found-says tasks-9 handlers-9 (lengths (3 ∷ 0 ∷ [])) refl
    (sym (ap (λ (f : Figures). f.least) cases-hold.1.1.1.1.1.1.1.1.0.holds))

-- case 6, a yes by priority: task 1/3, handler 2/10
says-6 : ResponsesSay (1 ∷ 3 ∷ 3 ∷ []) (2 ∷ 10 ∷ []) (profile (3 ∷ []))
unfolding cases figures_by table_refusal table_tests first_refusal some tasks_of handlers_of
says-6 =
    found-says (1 ∷ 3 ∷ 3 ∷ []) (2 ∷ 10 ∷ []) (lengths (3 ∷ [])) refl
    (sym (ap (λ (f : Figures). f.least) cases-hold.1.1.1.1.1.0.holds))

-- ---- ten times as fine

-- Case 9 times 10: 30 for the first task, none for the second.
pub nine-lengths : (q : Result (List ℕ) Refusal) → ResponsesSay (20 ∷ 50 ∷ 50 ∷ 40 ∷ 80 ∷ 80 ∷ []) (10 ∷ 40 ∷ []) q → (figures q).least ≡ lengths (30 ∷ 0 ∷ [])
unfolding FinerResponses responses_times times figures table_refusal table_tests first_refusal some tasks_of handlers_of listed_from
nine-lengths q says =
    ap (λ (f : Figures). f.least)
    (finer-responses 10 tasks-9 handlers-9 (profile (3 ∷ 0 ∷ [])) q (omega arith) refl refl says-9 says)

-- A yes stays one.
pub six-lengths : (q : Result (List ℕ) Refusal) → ResponsesSay (10 ∷ 30 ∷ 30 ∷ []) (20 ∷ 100 ∷ []) q → (figures q).least ≡ lengths (30 ∷ [])
unfolding FinerResponses responses_times times figures table_refusal table_tests first_refusal some tasks_of handlers_of listed_from
six-lengths q says =
    ap (λ (f : Figures). f.least)
    (finer-responses 10 (1 ∷ 3 ∷ 3 ∷ []) (2 ∷ 10 ∷ []) (profile (3 ∷ [])) q (omega arith) refl refl says-6 says)

-- ---- in another order

abbrev swapped-9 : List ℕ
swapped-9 = 4 ∷ 8 ∷ 8 ∷ 2 ∷ 5 ∷ 5 ∷ []

unfoldable swap : Exchanged (tasks_of tasks-9) (tasks_of swapped-9)
unfolding tasks_of
swap = exchanged (λ (e : ◌≡◌ {A = ℕ} 5 8). omega arith)

-- Case 9 with its tasks swapped: task 2/5, now the second, keeps 3, and task 4/8 has none.
module _ (q : Result (List ℕ) Refusal) (says : ResponsesSay swapped-9 handlers-9 q) where
  own : (i : ℕ) → i < length (tasks_of tasks-9) → get_or (lengths (3 ∷ 0 ∷ [])) i 0 ≡ get_or (figures q).least (went_to swap i) 0
  unfolding OwnResponse handlers_of figures
  own i row = own-response tasks-9 handlers-9 swapped-9 handlers-9 (profile (3 ∷ 0 ∷ [])) q swap refl (same nothing) refl says-9 says i row

  pub nine-own-first : get_or (figures q).least 1 0 ≡ 3
  unfolding swap went_to listed_from tasks_of
  nine-own-first = sym (own 0 (omega arith))

  pub nine-own-second : get_or (figures q).least 0 0 ≡ 0
  unfolding swap went_to listed_from tasks_of
  nine-own-second = sym (own 1 (omega arith))

-- Two tasks 1/4 with deadline 1: the lower row has a length and the other none, and exchanging them would not take that along.
pub tied-lengths : (p : Result (List ℕ) Refusal) → ResponsesSay (1 ∷ 4 ∷ 1 ∷ 1 ∷ 4 ∷ 1 ∷ []) [] p → (figures p).least ≡ lengths (1 ∷ 0 ∷ [])
unfolding cases figures
tied-lengths p says = ap (λ (f : Figures). f.least) (cases-hold.1.1.1.1.1.1.1.1.1.1.1.1.1.0.only p says)
