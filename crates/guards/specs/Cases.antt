-- Guards worked by hand (02, M-107): one list, one statement.
--   Case           == a guard and the figures of its answer
--   cases          == the list
--   CaseHolds c    the promise comes to these figures, and whatever it allows has them
--   EveryCase cs   each case of the list holds
use Rattle.std.specs.Prelude.{List, [], ◌∷◌, ◌≡◌, ℕ, Result}
use Rattle.demand.specs.declared.refusal.Refusal.{Refusal}
use Rattle.guards.specs.Answers.{Figures, figures, figures_by, RowsSay}
use Rattle.guards.specs.Guards.{guard_refusal}
use Rattle.guards.specs.declared.Pair.{Pair}
use Rattle.guards.specs.declared.Guard.{Guard}
use Rattle.guards.specs.declared.Guard.TheVariants.{Strict, Bursty}

pub record Case : Type 0 where
  pub guard : Guard
  pub told : Figures

abbrev rows : Guard → ℕ → ℕ → ℕ → Case
rows g interrupt timer period = record { guard = g; told = record { code = 0; interrupt = interrupt; timer = timer; period = period } }

abbrev refusal : Guard → ℕ → Case
refusal g k = record { guard = g; told = record { code = k; interrupt = 0; timer = 0; period = 0 } }

-- the greatest 32-bit number
abbrev top : ℕ
top = 4294967295

-- Document 004's board (Table 2, in cycles; an interrupt's work of 0.15 ms is 600): n interrupts a burst.
abbrev board : ℕ → ℕ → Guard
board n gap = Bursty n 79 5 600 79 12 5 gap

-- Table 3: a burst of 15 every 10 ms. Table 4: of 3 every 2 ms. The same board with a strict guard, one interrupt every 2/3 ms.
abbrev paper : List Case → List Case
paper more =
    rows (board 15 40000) 10370 89 40000
    ∷ rows (board 3 8000) 2078 89 8000
    ∷ rows (Strict 79 5 5 600 79 2667) 689 84 2667
    ∷ more

-- N out of range and at its ends.
abbrev bursts : List Case → List Case
bursts more =
    refusal (board 0 40000) 14
    ∷ rows (board 1 40000) 696 89 40000
    ∷ rows (board 1000 40000) 691005 89 40000
    ∷ refusal (board 1001 40000) 14
    ∷ refusal (board top 40000) 14
    ∷ more

-- Costs that add to 1,000,000 and to 1,000,001, of the interrupt and of the timer; costs that add to 0; gaps at their ends.
abbrev ends : List Case → List Case
ends more =
    rows (Strict 1 2 3 999994 5 100) 1000000 7 100
    ∷ refusal (Strict 1 2 3 999995 5 100) 3
    ∷ rows (Strict 1 2 3 4 999998 100) 10 1000000 100
    ∷ refusal (Strict 1 2 3 4 999999 100) 3
    ∷ rows (Bursty 1000 1 0 998 1 1 0 100) 1000000 1 100
    ∷ refusal (Bursty 1000 1 1 998 1 1 0 100) 3
    ∷ rows (Bursty 1 1 2 3 999997 1 1 100) 7 1000000 100
    ∷ refusal (Bursty 1 1 2 3 999998 1 1 100) 3
    ∷ refusal (Strict 0 0 0 0 1 100) 3
    ∷ refusal (Strict 1 0 0 0 0 100) 3
    ∷ refusal (Bursty 1 0 0 0 1 0 0 100) 3
    ∷ refusal (Strict 1 1 1 1 1 0) 3
    ∷ rows (Strict 1 1 1 1 1 1) 4 2 1
    ∷ rows (Strict 1 1 1 1 1 1000000) 4 2 1000000
    ∷ refusal (Strict 1 1 1 1 1 1000001) 3
    ∷ refusal (Bursty 1 1 1 1 1 1 1 0) 3
    ∷ rows (Bursty 1 1 1 1 1 1 1 1000000) 4 3 1000000
    ∷ refusal (Bursty 1 1 1 1 1 1 1 1000001) 3
    ∷ more

-- The greatest numbers everywhere; 14 before 3.
unfoldable pub cases : List Case
cases =
    paper
    (bursts
    (ends
    (refusal (Strict top top top top top top) 3
    ∷ refusal (Bursty top top top top top top top top) 14
    ∷ refusal (Bursty 1000 top top top top top top top) 3
    ∷ refusal (Bursty 1001 1 1 1 1 1 1 0) 14
    ∷ refusal (Bursty 0 1 1 1 1 1 1 1000001) 14
    ∷ [])))

pub record CaseHolds (c : Case) : Type 0 where
  pub holds : figures_by (guard_refusal c.guard) c.guard ≡ c.told
  pub only : (r : Result Pair Refusal) → RowsSay c.guard r → figures r ≡ c.told

abbrev pub EveryCase : List Case → Type 0
EveryCase [] = Unit
EveryCase (c ∷ cs) = CaseHolds c × EveryCase cs
