-- The worked guards (specs/Cases), by one computation over the list.
--   come_to cs   == the figures to which the promise comes for each guard of the list
--   told_of cs   == those that each case tells
use mathlib.Core.List.{List, [], ◌∷◌}
use mathlib.Core.Path.{◌≡◌, refl, ap, ◌∙◌}
use lib.ListN.{get_or, drop}
use Rattle.demand.specs.Tests.{first_refusal}
use Rattle.guards.specs.Answers.{Figures, figures_by}
use Rattle.guards.specs.Cases.{Case, cases, EveryCase}
use Rattle.guards.specs.Guards.{guard_tests, guard_refusal}

unfoldable come_to : List Case → List Figures
come_to [] = []
come_to (c ∷ cs) = figures_by (guard_refusal c.guard) c.guard ∷ come_to cs

unfoldable told_of : List Case → List Figures
told_of [] = []
told_of (c ∷ cs) = c.told ∷ told_of cs

-- Where these are equal each case holds, since whatever the promise allows has the figures to which it comes.
every-case : (cs : List Case) → come_to cs ≡ told_of cs → EveryCase cs
unfolding come_to told_of
every-case [] e = tt
every-case (c ∷ cs) e =
    let here : figures_by (guard_refusal c.guard) c.guard ≡ c.told = ap (λ (fs : List Figures). get_or fs 0 c.told) e in
    (record { holds = here; only = λ r says. says.figured ∙ here }, every-case cs (ap (λ (fs : List Figures). drop 1 fs) e))

all_come : come_to cases ≡ told_of cases
unfolding come_to told_of cases figures_by guard_refusal guard_tests first_refusal
all_come = refl

pub cases-hold : EveryCase cases
cases-hold = every-case cases all_come
