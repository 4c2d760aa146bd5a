-- The theorem in numbers, so that one that was weakened by a slip no longer gives them: task 3/20 beside the rows of two guards, strict
-- and bursty, mixed. The first 20 ticks are full.
use mathlib.Core.List.{List, [], ◌∷◌}
use mathlib.Core.Path.{◌≡◌, refl}
use native.Mathlib.Omega.{arith}
use Prim.Native.Nat.{ℕ, zero, suc}
use Rattle.std.specs.Prelude.{Result}
use Rattle.demand.specs.Demands.{called, grow, taken, handled, due, Fails}
use Rattle.demand.specs.Multiples.{lcm_from}
use Rattle.demand.specs.Numbered.{answered}
use Rattle.demand.specs.Refusals.{table_tests}
use Rattle.demand.specs.Rows.{row_at, tasks_of, handlers_of, total, some}
use Rattle.demand.specs.Tests.{first_refusal}
use Rattle.demand.specs.declared.refusal.Refusal.{Refusal}
use Rattle.euclid.specs.Euclid.{gcd, lcm, euclid}
use Rattle.guards.specs.Answers.{figures, figures_by, RowsSay, rows_told}
use Rattle.guards.specs.Guards.{guard_tests, guard_refusal}
use Rattle.guards.specs.declared.Guard.{Guard}
use Rattle.guards.specs.declared.Guard.TheVariants.{Strict, Bursty}
use Rattle.verdict.specs.Lengths.{AlwaysPasses}
use Rattle.verdict.specs.Loads.{work, whole}
use Rattle.verdict.specs.Multiples.{common}
use Rattle.verdict.specs.Promise as promise
use Rattle.verdict.specs.Promise.{verdict_refusal, VerdictSays}
use Rattle.verdict.specs.Promise.Word.{fits}
use Rattle.verdict.specs.declared.Answer.{Answer}
use Rattle.verdict.proofs.Cases.{short, short-zero}
use Rattle.verdict.proofs.Facts.Ends.{period-ends}
use Rattle.verdict.proofs.Lightening.{only-fits}
use Rattle.verdict.proofs.Readable.{readable-in-range}
use Rattle.milder.specs.Milder.{Milder}
use Rattle.milder.specs.MilderKeeps.{MilderKeeps}
use Rattle.milder.proofs.MilderKeeps.{milder-keeps}

-- ---- the guards: rows 5/40 and 2/40, and 7/40 and 3/40

abbrev strict : ℕ → Guard
strict work = Strict 1 1 1 work 1 40

abbrev burst : ℕ → Guard
burst n = Bursty n 1 1 1 1 1 1 40

strict-rows : RowsSay (strict 2) (rows_told 5 2 40)
unfolding figures figures_by guard_refusal guard_tests first_refusal answered
strict-rows = record { answer = refl; figured = refl }

strict-eased-rows : RowsSay (strict 1) (rows_told 4 2 40)
unfolding figures figures_by guard_refusal guard_tests first_refusal answered
strict-eased-rows = record { answer = refl; figured = refl }

burst-rows : RowsSay (burst 2) (rows_told 7 3 40)
unfolding figures figures_by guard_refusal guard_tests first_refusal answered
burst-rows = record { answer = refl; figured = refl }

burst-eased-rows : RowsSay (burst 1) (rows_told 4 3 40)
unfolding figures figures_by guard_refusal guard_tests first_refusal answered
burst-eased-rows = record { answer = refl; figured = refl }

-- Less work, and a burst of one.
strict-milder : Milder (strict 1) (strict 2)
strict-milder = record {
  kind = refl;
  gap = refl;
  counts = (omega arith, (omega arith, (omega arith, (omega arith, (omega arith, tt)))));
}

burst-milder : Milder (burst 1) (burst 2)
burst-milder = record {
  kind = refl;
  gap = refl;
  counts = (omega arith, (omega arith, (omega arith, (omega arith, (omega arith, (omega arith, (omega arith, tt)))))));
}

-- ---- the table, which fits

abbrev tasks : List ℕ
tasks = 3 ∷ 20 ∷ 20 ∷ []

-- the timer of the strict guard, the interrupt of the bursty one, the interrupt of the strict one, the timer of the bursty one
abbrev handlers : ℕ → ℕ → List ℕ
handlers interrupt bursts = 2 ∷ 40 ∷ bursts ∷ 40 ∷ interrupt ∷ 40 ∷ 3 ∷ 40 ∷ []

readable : verdict_refusal tasks (handlers 5 7) ≡ 0
unfolding verdict_refusal first_refusal table_tests common lcm_from lcm gcd euclid total some tasks_of handlers_of
readable = refl

h-is : common (tasks_of tasks) (handlers_of (handlers 5 7)) ≡ 40
unfolding common lcm_from lcm gcd euclid tasks_of handlers_of
h-is = refl

w-is : whole (tasks_of tasks) (handlers_of (handlers 5 7)) ≡ 23
unfolding whole work common lcm_from lcm gcd euclid total tasks_of handlers_of
w-is = refl

nothing-lacks : short (tasks_of tasks) (handlers_of (handlers 5 7)) 40 ≡ 0
unfolding short handled called taken grow due total tasks_of handlers_of
nothing-lacks = refl

passes : AlwaysPasses (tasks_of tasks) (handlers_of (handlers 5 7))
passes =
    let ts = tasks_of tasks in
    let hs = handlers_of (handlers 5 7) in
    period-ends ts hs (readable-in-range tasks (handlers 5 7) readable) (omega (arith, h-is, w-is))
    (λ l from within. short-zero ts hs 40 nothing-lacks l from (omega (arith, h-is)))

pub yes-here : (r : Result Answer Refusal) → VerdictSays tasks (handlers 5 7) r → (promise.figures r).word ≡ fits
unfolding VerdictSays
yes-here r says = only-fits tasks (handlers 5 7) (promise.figures r) readable passes says

-- ---- less work under the strict guard, a shorter burst under the bursty one: a yes each time

abbrev StaysYes : List ℕ → Type 0
StaysYes h' = (r r' : Result Answer Refusal) → VerdictSays tasks (handlers 5 7) r → VerdictSays tasks h' r' → (promise.figures r').word ≡ fits

pub work-lowered : StaysYes (handlers 4 7)
unfolding MilderKeeps handlers_of
work-lowered r r' says says' =
    milder-keeps (strict 2) (strict 1) 5 2 40 4 2 40 tasks (handlers 5 7) (handlers 4 7) 2 0 r r' strict-rows strict-eased-rows
    strict-milder
    (record { interrupt = refl; timer = refl })
    (record { interrupt = refl; timer = refl })
    (record { count = refl; others = others })
    says (yes-here r says) says'
  where
    others : (k : ℕ) → (k ≡ 2 → ⊥) → (k ≡ 0 → ⊥) → row_at (handlers_of (handlers 4 7)) k ≡ row_at (handlers_of (handlers 5 7)) k
    others zero ni nj = refl
    others (suc zero) ni nj = refl
    others (suc (suc zero)) ni nj = absurd (ni refl)
    others (suc (suc (suc k))) ni nj = refl

pub burst-lowered : StaysYes (handlers 5 4)
unfolding MilderKeeps handlers_of
burst-lowered r r' says says' =
    milder-keeps (burst 2) (burst 1) 7 3 40 4 3 40 tasks (handlers 5 7) (handlers 5 4) 1 3 r r' burst-rows burst-eased-rows
    burst-milder
    (record { interrupt = refl; timer = refl })
    (record { interrupt = refl; timer = refl })
    (record { count = refl; others = others })
    says (yes-here r says) says'
  where
    others : (k : ℕ) → (k ≡ 1 → ⊥) → (k ≡ 3 → ⊥) → row_at (handlers_of (handlers 5 4)) k ≡ row_at (handlers_of (handlers 5 7)) k
    others zero ni nj = refl
    others (suc zero) ni nj = absurd (ni refl)
    others (suc (suc k)) ni nj = refl

-- ---- what is not milder: a longer burst, which fails at 20; another gap; the other kind

pub burst-raised : ¬ Milder (burst 3) (burst 2)
burst-raised m = omega (arith, m.counts.0)

pub burst-raised-fails : Fails (tasks_of tasks) (handlers_of (handlers 5 10)) 20
unfolding handled called taken grow due total tasks_of handlers_of
burst-raised-fails = omega arith

pub gap-raised : ¬ Milder (Strict 1 1 1 2 1 41) (strict 2)
gap-raised m = omega (arith, m.gap)

pub other-kind : ¬ Milder (strict 2) (burst 2)
other-kind m = m.counts.1.1.1.1.1
