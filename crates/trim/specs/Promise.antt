-- What `trim` promises (02, M-112), said of the verdict's own promise.
--   Gets t h w          the verdict's promise allows an answer to the table t, h whose word is w; it allows one only: that is the verdict
--   missing t i         == task i is not in the table: the test of 18
--   trim_tests t h i     == the verdict's own refusal and 18, each a number beside its test
--   trim_refusal t h i   == the first of 1, 2, 3, 13, 4 and 18 that applies, 0 where none does
--   figures r           == the word, number and values for each case of an answer; what does not apply is 0
--   cost_of, none_of, refusal_of   == those of a cost, of none and of a refusal; cut_of old new those of a cost, where there is one, or of none
--   numbers_of g         == the numbers of the figures g: the refusal's, old and new cost; answer_numbers r are those of an answer
--   TrimSays t h i r    r is the answer for task i of the table t, h
use Rattle.std.specs.Prelude.{Bool, List, [], ◌∷◌, ◌≡◌, ℕ, ◌+◌, ◌≤◌, ◌<◌, leb, ltb, length, Result, Ok, Err, Option, Some, None}
use Rattle.demand.specs.Numbered.{number_of}
use Rattle.demand.specs.Rows.{tasks_of}
use Rattle.demand.specs.Tests.{first_refusal}
use Rattle.demand.specs.declared.refusal.Refusal.{Refusal}
use Rattle.trim.specs.Costs.{cost_at, with_cost}
use Rattle.trim.specs.declared.Cut.{Cut}
use Rattle.verdict.specs.Promise as verdict
use Rattle.verdict.specs.Promise.{verdict_refusal, VerdictSays}
use Rattle.verdict.specs.Promise.Word.{fits, misses}
use Rattle.verdict.specs.declared.Answer as sheet

pub record Gets (t h : List ℕ) (w : verdict.Word) : Type 0 where
  pub answer : Result sheet.Answer Refusal
  pub says : VerdictSays t h answer
  pub word : (verdict.figures answer).word ≡ w

-- ---- refusals

-- 18: a named task that isn't in the table, after 4
abbrev pub missing : List ℕ → ℕ → Bool
missing t i = leb (length (tasks_of t)) i

unfoldable pub trim_tests : List ℕ → List ℕ → ℕ → List (ℕ × Bool)
trim_tests t h i = (verdict_refusal t h, ltb 0 (verdict_refusal t h)) ∷ (18, missing t i) ∷ []

unfoldable pub trim_refusal : List ℕ → List ℕ → ℕ → ℕ
trim_refusal t h i = first_refusal (trim_tests t h i)

-- ---- the figures of an answer, spelled here and nowhere else

pub data Word : Type 0 where
  cost : Word
  none : Word
  refused : Word

pub record Figures : Type 0 where
  pub word : Word
  pub code : ℕ
  pub old : ℕ
  pub new : ℕ

abbrev pub cost_of : ℕ → ℕ → Figures
cost_of old new = record { word = cost; code = 0; old = old; new = new }

abbrev pub none_of : ℕ → Figures
none_of old = record { word = none; code = 0; old = old; new = 0 }

abbrev pub refusal_of : ℕ → Figures
refusal_of number = record { word = refused; code = number; old = 0; new = 0 }

abbrev pub cut_of : ℕ → Option ℕ → Figures
cut_of old (Some new) = cost_of old new
cut_of old None = none_of old

unfoldable pub figures : Result Cut Refusal → Figures
figures (Ok cut) = cut_of cut.old cut.new
figures (Err e) = refusal_of (number_of e)

abbrev pub numbers_of : Figures → List ℕ
numbers_of g = g.code ∷ g.old ∷ g.new ∷ []

abbrev pub answer_numbers : Result Cut Refusal → List ℕ
answer_numbers r = numbers_of (figures r)

-- ---- what they say

-- A cost from 1 up to the present one: it gets fits, and where it was lowered the next one up gets misses.
pub record SaysCost (t h : List ℕ) (i : ℕ) (g : Figures) : Type 0 where
  pub answered : trim_refusal t h i ≡ 0
  pub least : 1 ≤ g.new
  pub most : g.new ≤ cost_at t i
  pub fits : Gets (with_cost t i g.new) h fits
  pub next : g.new < cost_at t i → Gets (with_cost t i (g.new + 1)) h misses
  pub figures : g ≡ cost_of (cost_at t i) g.new

-- None: cost 1 gets misses.
pub record SaysNone (t h : List ℕ) (i : ℕ) (g : Figures) : Type 0 where
  pub answered : trim_refusal t h i ≡ 0
  pub one : Gets (with_cost t i 1) h misses
  pub figures : g ≡ none_of (cost_at t i)

-- A refusal: the first number that applies, all other figures 0.
pub record SaysRefused (t h : List ℕ) (i : ℕ) (g : Figures) : Type 0 where
  pub unanswered : 0 < trim_refusal t h i
  pub figures : g ≡ refusal_of (trim_refusal t h i)

unfoldable pub SaysBy : Word → List ℕ → List ℕ → ℕ → Figures → Type 0
SaysBy cost t h i g = SaysCost t h i g
SaysBy none t h i g = SaysNone t h i g
SaysBy refused t h i g = SaysRefused t h i g

unfoldable pub Says : List ℕ → List ℕ → ℕ → Figures → Type 0
Says t h i g = SaysBy g.word t h i g

unfoldable pub TrimSays : List ℕ → List ℕ → ℕ → Result Cut Refusal → Type 0
TrimSays t h i r = Says t h i (figures r)
