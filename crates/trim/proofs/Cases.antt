-- The tables trimmed by hand (specs/Cases), by one computed test of a case and one computation over the list.
--   failing fuel ts hs n   == the first length from n on that fails
--   sheet_of w t h          == the verdict's figures of the table t, h, where its word is w
--   gets w t h             == the test that it is
--   pairs w t h i g        == the pairs that must be the same for figures g with the word w to be the answer for task i
--   sheets w t h i g       == and the test of the verdicts that they name
--   holds c, all_hold cs    == the test of a case, and of each case
use mathlib.Core.Bool.{Bool, true, false, ◌&&◌}
use mathlib.Core.List.{List, [], ◌∷◌}
use mathlib.Core.Path.{◌≡◌, refl}
use native.Mathlib.Omega.{arith}
use borrow.Author.Tests.{lt-ltb}
use lib.Dec.{ltb}
use Prim.Native.Nat.{ℕ, zero, suc, ◌+◌, ◌-◌}
use Rattle.std.specs.Prelude.{Ok}
use Rattle.demand.specs.Demands.{called, grow, taken, handled, left, due}
use Rattle.demand.specs.Multiples.{lcm_from}
use Rattle.demand.specs.Refusals.{table_tests}
use Rattle.demand.specs.Rows.{Row, tasks_of, handlers_of, total, some}
use Rattle.demand.specs.Tests.{pick, first_refusal}
use Rattle.euclid.specs.Euclid.{gcd, lcm, euclid}
use Rattle.trim.specs.Cases.{Case, cases, CaseHolds, EveryCase}
use Rattle.trim.specs.Costs.{cost_at, with_cost}
use Rattle.trim.specs.Promise.{Word, Figures, figures, Gets, trim_tests, trim_refusal, SaysBy, Says, TrimSays}
use Rattle.trim.specs.Promise.Word.{cost, none, refused}
use Rattle.trim.proofs.Answers.{says-unique}
use Rattle.verdict.specs.Cases as worked
use Rattle.verdict.specs.Facts.{bound}
use Rattle.verdict.specs.Idle.{asks}
use Rattle.verdict.specs.Inside.Search.{end_by, search_end}
use Rattle.verdict.specs.Loads.{work, whole, costs, slack, millionths, load}
use Rattle.verdict.specs.Multiples.{common}
use Rattle.verdict.specs.Promise as verdict
use Rattle.verdict.specs.Promise.{yes_of, no_of, refusal_of, miss_at, verdict_refusal, VerdictSays}
use Rattle.verdict.specs.Tested.{tested, yes_end_by, yes_end}
use Rattle.verdict.specs.declared.Answer.TheVariants as answer
use Rattle.verdict.proofs.Cases as sheet
use Rattle.verdict.proofs.Cases.{same, Same, same_true, alike, short, drain, idled, idle_facts, facts, expected, beside, holds-says}

-- ---- a verdict's word

unfoldable failing : ℕ → List Row → List Row → ℕ → ℕ
failing zero ts hs n = n
failing (suc fuel) ts hs n = pick (ltb n (handled hs n + due ts n)) n (failing fuel ts hs (suc n))

abbrev yes_count : List Row → List Row → ℕ
yes_count ts hs = tested ts (yes_end ts hs (drain 64 ts hs 1))

unfoldable sheet_of : verdict.Word → List ℕ → List ℕ → verdict.Figures
sheet_of verdict.Word.fits t h = yes_of (load (tasks_of t) (handlers_of h)) (yes_count (tasks_of t) (handlers_of h))
sheet_of verdict.Word.misses t h =
    no_of (miss_at (tasks_of t) (handlers_of h) (failing 64 (tasks_of t) (handlers_of h) 1)) (load (tasks_of t) (handlers_of h))
sheet_of verdict.Word.refused t h = refusal_of 0

abbrev case_of : verdict.Word → List ℕ → List ℕ → worked.Case
case_of w t h = record { tasks = t; handlers = h; sheet = sheet_of w t h; beside = [] }

unfoldable gets : verdict.Word → List ℕ → List ℕ → Bool
gets verdict.Word.fits t h = sheet.holds (case_of verdict.Word.fits t h)
gets verdict.Word.misses t h = sheet.holds (case_of verdict.Word.misses t h)
gets verdict.Word.refused t h = false

gets_by : (w : verdict.Word) (t h : List ℕ) → gets w t h ≡ true → Gets t h w
unfolding gets sheet_of VerdictSays verdict.figures
gets_by verdict.Word.fits t h e =
    let ts = tasks_of t in
    let hs = handlers_of h in
    record { answer = Ok (answer.Fits (load ts hs) (yes_count ts hs)); says = (holds-says (case_of verdict.Word.fits t h) e).holds; word = refl }
gets_by verdict.Word.misses t h e =
    let ts = tasks_of t in
    let hs = handlers_of h in
    let miss = miss_at ts hs (failing 64 ts hs 1) in
    record { answer = Ok (answer.Misses miss (load ts hs)); says = (holds-says (case_of verdict.Word.misses t h) e).holds; word = refl }
gets_by verdict.Word.refused t h e = cc e

-- ---- the test of a case

unfoldable pairs : Word → List ℕ → List ℕ → ℕ → Figures → List (ℕ × ℕ)
pairs cost t h i g =
    (trim_refusal t h i, 0) ∷ (1 - g.new, 0) ∷ (g.new - cost_at t i, 0) ∷ (g.code, 0) ∷ (g.old, cost_at t i) ∷ []
pairs none t h i g = (trim_refusal t h i, 0) ∷ (g.code, 0) ∷ (g.old, cost_at t i) ∷ (g.new, 0) ∷ []
pairs refused t h i g = (1 - trim_refusal t h i, 0) ∷ (g.code, trim_refusal t h i) ∷ (g.old, 0) ∷ (g.new, 0) ∷ []

unfoldable sheets : Word → List ℕ → List ℕ → ℕ → Figures → Bool
sheets cost t h i g =
    gets verdict.Word.fits (with_cost t i g.new) h
    && pick (ltb g.new (cost_at t i)) (gets verdict.Word.misses (with_cost t i (g.new + 1)) h) true
sheets none t h i g = gets verdict.Word.misses (with_cost t i 1) h
sheets refused t h i g = true

unfoldable holds : Case → Bool
holds c =
    same (pairs c.told.word c.tasks c.handlers c.row c.told)
    && sheets c.told.word c.tasks c.handlers c.row c.told

both : (a b : Bool) → (a && b) ≡ true → (a ≡ true) × (b ≡ true)
both true b e = (refl, e)
both false b e = (e, cc)

-- Figures whose pairs are the same and whose verdicts are as named are what the promise says.
says-by : (w : Word) (t h : List ℕ) (i : ℕ) (g : Figures) → g.word ≡ w → Same (pairs w t h i g) → sheets w t h i g ≡ true
    → SaysBy w t h i g
unfolding pairs sheets SaysBy
says-by cost t h i g word (answered, (least, (most, (code, (old, _))))) e =
    let now = gets verdict.Word.fits (with_cost t i g.new) h in
    let next = gets verdict.Word.misses (with_cost t i (g.new + 1)) h in
    let parts = both now (pick (ltb g.new (cost_at t i)) next true) e in
    record {
      answered = answered;
      least = omega arith;
      most = omega arith;
      fits = gets_by verdict.Word.fits (with_cost t i g.new) h parts.0;
      next = λ less. gets_by verdict.Word.misses (with_cost t i (g.new + 1)) h (rw (lt-ltb g.new (cost_at t i) less) at parts.1);
      figures = λ j. record { word = word j; code = code j; old = old j; new = g.new };
    }
says-by none t h i g word (answered, (code, (old, (new, _)))) e = record {
  answered = answered;
  one = gets_by verdict.Word.misses (with_cost t i 1) h e;
  figures = λ j. record { word = word j; code = code j; old = old j; new = new j };
}
says-by refused t h i g word (unanswered, (code, (old, (new, _)))) e = record {
  unanswered = omega arith;
  figures = λ j. record { word = word j; code = code j; old = old j; new = new j };
}

holds-case : (c : Case) → holds c ≡ true → CaseHolds c
unfolding holds Says TrimSays
holds-case c e =
    let g = c.told in
    let first = pairs g.word c.tasks c.handlers c.row g in
    let parts = both (same first) (sheets g.word c.tasks c.handlers c.row g) e in
    let says : Says c.tasks c.handlers c.row g =
    says-by g.word c.tasks c.handlers c.row g refl (same_true first parts.0) parts.1 in
    record { holds = says; only = λ r s. says-unique c.tasks c.handlers c.row (figures r) g s says }

-- ---- all of them

unfoldable all_hold : List Case → Bool
all_hold [] = true
all_hold (c ∷ cs) = holds c && all_hold cs

every-case : (cs : List Case) → all_hold cs ≡ true → EveryCase cs
unfolding all_hold
every-case [] e = tt
every-case (c ∷ cs) e =
    let parts = both (holds c) (all_hold cs) e in
    (holds-case c parts.0, every-case cs parts.1)

-- The one computation: here the definitions are opened, those of the crates below too, since only numbers are left to find.
all-hold : all_hold cases ≡ true
unfolding all_hold holds pairs sheets gets sheet_of failing cases trim_refusal trim_tests with_cost cost_at sheet.holds same facts alike expected beside idle_facts drain idled asks tested yes_end yes_end_by short search_end bound end_by verdict_refusal first_refusal table_tests load whole work costs slack millionths common lcm_from lcm gcd euclid handled called left taken grow due total some tasks_of handlers_of
all-hold = refl

pub cases-hold : EveryCase cases
cases-hold = every-case cases all-hold
