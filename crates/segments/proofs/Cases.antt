-- The schedules judged by hand (specs/Cases), by one computation over the list.
--   answer_by k o      == the figures of a refusal k, or where that is 0 of the outcome o
--   answer_of c        == those of a case
--   answers, tolds    == those of each case, and those that are told
use mathlib.Core.List.{List, [], ◌∷◌}
use mathlib.Core.Path.{◌≡◌, refl, sym, ap, subst}
use native.Mathlib.Omega.{arith}
use Prim.Native.Nat.{ℕ, zero, suc}
use Rattle.demand.specs.Multiples.{lcm_from}
use Rattle.demand.specs.Refusals.{table_tests}
use Rattle.demand.specs.Rows.{tasks_of, handlers_of, some}
use Rattle.demand.specs.Tests.{first_refusal}
use Rattle.euclid.specs.Euclid.{gcd, lcm, euclid}
use Rattle.segments.specs.Cases.{Case, crowd, accepted_cases, broken_cases, refused_cases, cases, CaseHolds, EveryCase}
use Rattle.segments.specs.Given.{task_ticks, handler_ticks}
use Rattle.segments.specs.Inside.{Outcome, fine, broken, judge, waits_of, lates_of}
use Rattle.segments.specs.Promise.{Figures, figures, accepted_of, broken_of, refusal_of, disordered, judge_tests, judge_refusal}
use Rattle.segments.specs.Promise.{Says, JudgeSays}
use Rattle.segments.specs.Segments.{segments_of, at}
use Rattle.segments.proofs.Answers.{refused-says, says-accepted, says-broken, says-unique}
use Rattle.verdict.specs.Multiples.{common}
use Rattle.verdict.specs.Promise.{verdict_refusal}

unfoldable answer_by : ℕ → Outcome → Figures
answer_by zero fine = accepted_of
answer_by zero (broken z) = broken_of z
answer_by (suc k) o = refusal_of (suc k)

unfoldable answer_of : Case → Figures
answer_of c =
    answer_by (judge_refusal c.tasks c.handlers c.segments c.span)
    (judge (tasks_of c.tasks) (handlers_of c.handlers) (at (segments_of c.segments)) c.span 0 (segments_of c.segments))

-- What is worked out is what the promise says,
answer-says : (c : Case) → Says c.tasks c.handlers c.segments c.span (answer_of c)
unfolding answer_of answer_by JudgeSays figures
answer-says c =
    go (judge_refusal c.tasks c.handlers c.segments c.span) refl
    (judge (tasks_of c.tasks) (handlers_of c.handlers) (at (segments_of c.segments)) c.span 0 (segments_of c.segments)) refl
  where
    go : (k : ℕ) → judge_refusal c.tasks c.handlers c.segments c.span ≡ k
        → (o : Outcome)
        → judge (tasks_of c.tasks) (handlers_of c.handlers) (at (segments_of c.segments)) c.span 0 (segments_of c.segments) ≡ o
        → Says c.tasks c.handlers c.segments c.span (answer_by k o)
    go zero none fine e = says-accepted c.tasks c.handlers c.segments c.span none e
    go zero none (broken z) e = says-broken c.tasks c.handlers c.segments c.span none z e
    go (suc k) some o e = refused-says c.tasks c.handlers c.segments c.span (suc k) (sym some) (omega arith)

-- and nothing else.
case-holds : (c : Case) → answer_of c ≡ c.told → CaseHolds c
unfolding JudgeSays
case-holds c e =
    let says = subst (λ (g : Figures). Says c.tasks c.handlers c.segments c.span g) e (answer-says c) in
    record { holds = says; only = λ r s. says-unique c.tasks c.handlers c.segments c.span (figures r) c.told s says }

-- ---- all of them

unfoldable answers : List Case → List Figures
answers [] = []
answers (c ∷ cs) = answer_of c ∷ answers cs

unfoldable tolds : List Case → List Figures
tolds [] = []
tolds (c ∷ cs) = c.told ∷ tolds cs

first : Figures → List Figures → Figures
first d [] = d
first d (g ∷ gs) = g

others : List Figures → List Figures
others [] = []
others (g ∷ gs) = gs

every-case : (cs : List Case) → answers cs ≡ tolds cs → EveryCase cs
unfolding answers tolds first others
every-case [] e = tt
every-case (c ∷ cs) e = (case-holds c (ap (first accepted_of) e), every-case cs (ap others e))

-- The one computation: here the definitions are opened, those of the crates below too, since only numbers are left to find.
all_told : answers cases ≡ tolds cases
unfolding answers tolds answer_of answer_by cases crowd accepted_cases broken_cases refused_cases judge_refusal judge_tests verdict_refusal first_refusal table_tests disordered segments_of judge task_ticks handler_ticks waits_of lates_of at common lcm_from lcm gcd euclid some tasks_of handlers_of
all_told = refl

-- So each case holds.
pub cases-hold : EveryCase cases
cases-hold = every-case cases all_told
