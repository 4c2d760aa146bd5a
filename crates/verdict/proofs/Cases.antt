-- Cases 1 to 12 (specs/Cases), by one computed test of a sheet and one computation over the list.
--   same ps           == the two figures of each pair are the same
--   short ts hs n     == the ticks that all lengths up to n lack in sum: 0 where each of them passes
--   alike xs ys       == two lists of numbers are the same
--   below0, above0    == how far a signed number is below 0, above 0
--   beside ts hs fs   == the pairs that must be the same for the facts fs to be true of rows ts, hs
--   drain fuel ts hs n, idled ts hs z, idle_facts ts hs z   == the idle point from n on, and the pairs that tell it
--   facts w t h g     == the pairs that must be the same for figures g with the word w to be true of table t, h
--   expected w t h g  == the figures that they must then be
--   holds c           == the test of a case
--   all_hold cs        == the test of each case
--   Same ps           what same ps comes to, as equations
use mathlib.Core.Bool.{Bool, true, false, ◌&&◌}
use mathlib.Core.List.{List, [], ◌∷◌}
use mathlib.Core.Logic.{◌⊎◌, inl, inr}
use mathlib.Core.Path.{◌≡◌, refl, ap, sym, ◌∙◌}
use native.Mathlib.Omega.{arith}
use borrow.Author.Tests.{eqb-true}
use lib.Dec.{eqb, leb}
use lib.IntN.{ℤ, pos, negsuc}
use Prim.Native.Nat.{ℕ, zero, suc, ◌+◌, ◌-◌, ◌≤◌, ◌<◌}
use Rattle.demand.specs.Demands.{called, grow, taken, handled, left, due, margin, Passes}
use Rattle.demand.specs.Refusals.{table_tests}
use Rattle.demand.specs.Tests.{pick, first_refusal}
use Rattle.demand.specs.Rows.{Row, tasks_of, handlers_of, total, some}
use Rattle.demand.proofs.Divide.{le-or-lt}
use Rattle.verdict.specs.Cases.{Fact, Case, plain, cases, CaseHolds, EveryFact, EveryCase}
use Rattle.verdict.specs.Cases.Fact.{calls, takes, leaves, margins, meets}
use Rattle.verdict.specs.Inside.Search.{end_by, search_end}
use Rattle.verdict.specs.Facts.{PassesTo, bound}
use Rattle.verdict.specs.Idle.{asks}
use Rattle.verdict.specs.Tested.{tested, yes_end_by, yes_end}
use Rattle.verdict.specs.Loads.{work, whole, costs, slack, millionths, load}
use Rattle.euclid.specs.Euclid.{gcd, lcm, euclid}
use Rattle.demand.specs.Multiples.{lcm_from}
use Rattle.verdict.specs.Multiples.{common}
use Rattle.verdict.specs.Promise.{Word, Figures, figures, yes_of, no_of, refusal_of, numbers_of, miss_at, verdict_refusal, SaysBy, Says, VerdictSays}
use Rattle.verdict.specs.Promise.Word.{fits, misses, refused}
use Rattle.verdict.proofs.Facts.Ends.{end-enough}
use Rattle.verdict.proofs.Promise.{figures-same, says-unique}
use Rattle.verdict.proofs.Readable.{readable-in-range}

-- ---- pairs of figures

unfoldable pub same : List (ℕ × ℕ) → Bool
same [] = true
same (p ∷ ps) = eqb p.0 p.1 && same ps

abbrev pub Same : List (ℕ × ℕ) → Type 0
Same [] = Unit
Same (p ∷ ps) = (p.0 ≡ p.1) × Same ps

both : (a b : Bool) → (a && b) ≡ true → (a ≡ true) × (b ≡ true)
both true b e = (refl, e)
both false b e = (e, cc)

pub same_true : (ps : List (ℕ × ℕ)) → same ps ≡ true → Same ps
unfolding same
same_true [] e = tt
same_true (p ∷ ps) e =
    let parts : (eqb p.0 p.1 ≡ true) × (same ps ≡ true) = both (eqb p.0 p.1) (same ps) e in
    (eqb-true p.0 p.1 parts.0, same_true ps parts.1)

-- Two lists of the same numbers.
unfoldable pub alike : List ℕ → List ℕ → Bool
alike [] [] = true
alike [] (y ∷ ys) = false
alike (x ∷ xs) [] = false
alike (x ∷ xs) (y ∷ ys) = eqb x y && alike xs ys

alike-true : (xs ys : List ℕ) → alike xs ys ≡ true → xs ≡ ys
unfolding alike
alike-true [] [] e = refl
alike-true [] (y ∷ ys) e = cc e
alike-true (x ∷ xs) [] e = cc e
alike-true (x ∷ xs) (y ∷ ys) e =
    let parts = both (eqb x y) (alike xs ys) e in
    λ i. eqb-true x y parts.0 i ∷ alike-true xs ys parts.1 i

-- ---- a signed number by its parts

abbrev pub below0 : ℤ → ℕ
below0 (pos n) = 0
below0 (negsuc n) = suc n

abbrev pub above0 : ℤ → ℕ
above0 (pos n) = n
above0 (negsuc n) = 0

-- ---- lengths that pass, from below

unfoldable pub short : List Row → List Row → ℕ → ℕ
short ts hs zero = 0
short ts hs (suc n) = short ts hs n + (handled hs (suc n) + due ts (suc n) - suc n)

-- Nothing lacks: every length up to n passes.
pub short-zero : (ts hs : List Row) (n : ℕ) → short ts hs n ≡ 0 → PassesTo ts hs n
unfolding short
short-zero ts hs zero e l from within = absurd (omega arith)
short-zero ts hs (suc n) e l from within = go (short-zero ts hs n (omega arith)) (le-or-lt l n)
  where
    go : PassesTo ts hs n → (l ≤ n) ⊎ (n < l) → Passes ts hs l
    go below (inl h) = below l from h
    go below (inr h) = let last : l ≡ suc n = omega arith in rw last (omega arith)

-- ---- the idle point, from below

unfoldable pub drain : ℕ → List Row → List Row → ℕ → ℕ
drain zero ts hs n = n
drain (suc fuel) ts hs n = pick (leb (asks ts hs n) n) n (drain fuel ts hs (suc n))

-- how far the lengths from 1 to below n are from not having drained, in sum: 0 where none has
unfoldable pub idled : List Row → List Row → ℕ → ℕ
idled ts hs zero = 0
idled ts hs (suc zero) = 0
idled ts hs (suc (suc n)) = idled ts hs (suc n) + (suc (suc n) - asks ts hs (suc n))

idled-zero : (ts hs : List Row) (z : ℕ) → idled ts hs z ≡ 0 → (l : ℕ) → 1 ≤ l → l < z → l < asks ts hs l
unfolding idled
idled-zero ts hs zero e l from below = absurd (omega arith)
idled-zero ts hs (suc zero) e l from below = absurd (omega arith)
idled-zero ts hs (suc (suc n)) e l from below = go (idled-zero ts hs (suc n) (omega arith)) (le-or-lt (suc n) l)
  where
    go : ((m : ℕ) → 1 ≤ m → m < suc n → m < asks ts hs m) → (suc n ≤ l) ⊎ (l < suc n) → l < asks ts hs l
    go busy (inl last) = let same : l ≡ suc n = omega arith in rw same (omega arith)
    go busy (inr before) = busy l from before

unfoldable pub idle_facts : List Row → List Row → ℕ → List (ℕ × ℕ)
idle_facts ts hs z = (1 - z, 0) ∷ (asks ts hs z - z, 0) ∷ (idled ts hs z, 0) ∷ []

-- ---- the test of a sheet

unfoldable pub facts : Word → List ℕ → List ℕ → Figures → List (ℕ × ℕ)
facts fits t h g =
    (verdict_refusal t h, 0)
    ∷ (short (tasks_of t) (handlers_of h) (search_end (tasks_of t) (handlers_of h)), 0)
    ∷ idle_facts (tasks_of t) (handlers_of h) (drain 64 (tasks_of t) (handlers_of h) 1)
facts misses t h g =
    (verdict_refusal t h, 0)
    ∷ (1 - g.interval, 0)
    ∷ (suc g.interval - (handled (handlers_of h) g.interval + due (tasks_of t) g.interval), 0)
    ∷ (short (tasks_of t) (handlers_of h) (g.interval - 1), 0)
    ∷ []
facts refused t h g = (1 - verdict_refusal t h, 0) ∷ []

unfoldable pub expected : Word → List ℕ → List ℕ → Figures → Figures
expected fits t h g =
    yes_of (load (tasks_of t) (handlers_of h)) (tested (tasks_of t) (yes_end (tasks_of t) (handlers_of h) (drain 64 (tasks_of t) (handlers_of h) 1)))
expected misses t h g = no_of (miss_at (tasks_of t) (handlers_of h) g.interval) (load (tasks_of t) (handlers_of h))
expected refused t h g = refusal_of (verdict_refusal t h)

-- what is told beside a sheet, as pairs: a signed number is two, what is below 0 and what is above
unfoldable pub beside : List Row → List Row → List Fact → List (ℕ × ℕ)
beside ts hs [] = []
beside ts hs (calls l n ∷ fs) = (called hs l, n) ∷ beside ts hs fs
beside ts hs (takes l n ∷ fs) = (handled hs l, n) ∷ beside ts hs fs
beside ts hs (leaves l n ∷ fs) = (left hs l, n) ∷ beside ts hs fs
beside ts hs (margins l z ∷ fs) = (below0 (margin ts hs l), below0 z) ∷ (above0 (margin ts hs l), above0 z) ∷ beside ts hs fs
beside ts hs (meets n ∷ fs) = (common ts hs, n) ∷ beside ts hs fs

unfoldable pub holds : Case → Bool
holds c =
    same (facts c.sheet.word c.tasks c.handlers c.sheet)
    && (alike (numbers_of c.sheet) (numbers_of (expected c.sheet.word c.tasks c.handlers c.sheet))
    && same (beside (tasks_of c.tasks) (handlers_of c.handlers) c.beside))

-- A sheet whose facts hold and whose figures are those expected is what the promise says.
says-by : (w : Word) (t h : List ℕ) (g : Figures) → g.word ≡ w → Same (facts w t h g) → numbers_of g ≡ numbers_of (expected w t h g) → SaysBy w t h g
unfolding facts expected SaysBy idle_facts
says-by fits t h g word (readable, (passes, (positive, (room, (busy, _))))) numbers =
    let ts = tasks_of t in
    let hs = handlers_of h in
    let z = drain 64 ts hs 1 in
    let told : g ≡ yes_of (load ts hs) (tested ts (yes_end ts hs z)) = figures-same g (yes_of (load ts hs) (tested ts (yes_end ts hs z))) word numbers in
    let count : g.tested ≡ tested ts (yes_end ts hs z) = ap (λ (f : Figures). f.tested) told in
    record {
      readable = readable;
      passes = end-enough ts hs (readable-in-range t h readable) (short-zero ts hs (search_end ts hs) passes);
      count = record {
        point = z;
        idle = record { positive = omega arith; room = omega arith; least = idled-zero ts hs z busy };
        count = count;
      };
      figures = told ∙ ap (yes_of (load ts hs)) (sym count);
    }
says-by misses t h g word (readable, (positive, (fails, (below, _)))) numbers = record {
  readable = readable;
  shortest = record {
    positive = omega arith;
    fails = omega arith;
    least = λ m from less. short-zero (tasks_of t) (handlers_of h) (g.interval - 1) below m from (omega arith);
  };
  figures = figures-same g (no_of (miss_at (tasks_of t) (handlers_of h) g.interval) (load (tasks_of t) (handlers_of h))) word numbers;
}
says-by refused t h g word (unreadable, _) numbers = record {
  unreadable = omega arith;
  figures = figures-same g (refusal_of (verdict_refusal t h)) word numbers;
}

-- Signed numbers of one sign and one size are the same.
signed_same : (x y : ℤ) → below0 x ≡ below0 y → above0 x ≡ above0 y → x ≡ y
signed_same (pos m) (pos n) e f = ap pos f
signed_same (pos m) (negsuc n) e f = absurd (omega arith)
signed_same (negsuc m) (pos n) e f = absurd (omega arith)
signed_same (negsuc m) (negsuc n) e f = let same : m ≡ n = omega arith in ap negsuc same

facts-told : (ts hs : List Row) (fs : List Fact) → Same (beside ts hs fs) → EveryFact ts hs fs
unfolding beside
facts-told ts hs [] s = tt
facts-told ts hs (calls l n ∷ fs) s = (s.0, facts-told ts hs fs s.1)
facts-told ts hs (takes l n ∷ fs) s = (s.0, facts-told ts hs fs s.1)
facts-told ts hs (leaves l n ∷ fs) s = (s.0, facts-told ts hs fs s.1)
facts-told ts hs (margins l z ∷ fs) s = (signed_same (margin ts hs l) z s.0 s.1.0, facts-told ts hs fs s.1.1)
facts-told ts hs (meets n ∷ fs) s = (s.0, facts-told ts hs fs s.1)

-- A case whose test holds is what the promise says, and whatever the promise allows has its figures.
pub holds-says : (c : Case) → holds c ≡ true → CaseHolds c
unfolding holds Says VerdictSays
holds-says c e =
    let t = c.tasks in
    let h = c.handlers in
    let g = c.sheet in
    let numbers = numbers_of (expected g.word t h g) in
    let told = beside (tasks_of t) (handlers_of h) c.beside in
    let first = both (same (facts g.word t h g)) (alike (numbers_of g) numbers && same told) e in
    let rest = both (alike (numbers_of g) numbers) (same told) first.1 in
    let says : Says t h g = says-by g.word t h g refl (same_true (facts g.word t h g) first.0) (alike-true (numbers_of g) numbers rest.0) in
    record {
      holds = says;
      only = λ r s. says-unique t h (figures r) g s says;
      facts = facts-told (tasks_of t) (handlers_of h) c.beside (same_true told rest.1);
    }

-- ---- all of them

unfoldable pub all_hold : List Case → Bool
all_hold [] = true
all_hold (c ∷ cs) = holds c && all_hold cs

pub every-case : (cs : List Case) → all_hold cs ≡ true → EveryCase cs
unfolding all_hold
every-case [] e = tt
every-case (c ∷ cs) e =
    let parts : (holds c ≡ true) × (all_hold cs ≡ true) = both (holds c) (all_hold cs) e in
    (holds-says c parts.0, every-case cs parts.1)

-- The one computation: here the definitions are opened, crate demand's too, since only numbers are left to find.
all-hold : all_hold cases ≡ true
unfolding all_hold holds same facts alike expected beside idle_facts drain idled asks tested yes_end yes_end_by short plain cases search_end bound end_by verdict_refusal first_refusal table_tests load whole work costs slack millionths common lcm_from lcm gcd euclid handled called left margin taken grow due total some tasks_of handlers_of
all-hold = refl

pub cases-hold : EveryCase cases
cases-hold = every-case cases all-hold
