-- What `verdict` promises (00, demand 2; 01, "The verdict" and "Numbered refusals").
--   verdict_refusal t h   == the first refusal of 1, 2, 3, 13, 4 that applies, 0 for a readable table
--   figures r            == the paper's word, number and values for each case of an answer; what does not apply is 0
--   yes_of, no_of, refusal_of   == those of a yes, of a no and of a refusal
--   numbers_of g          == the numbers of the figures g, in the order of the printed line
--   answer_numbers r      == those of an answer, behind the number of its word
--   miss_at ts hs l       == what is told of an interval of l ticks that fails
--   VerdictSays t h r    r is the answer to the table t, h
use Rattle.std.specs.Prelude.{List, [], ◌∷◌, ◌++◌, ◌≡◌, ℕ, ◌<◌, ltb, Result, Ok, Err}
use Rattle.demand.specs.Demands.{handled, left, due}
use Rattle.demand.specs.Limits.{ticks_most}
use Rattle.demand.specs.Numbered.{number_of}
use Rattle.demand.specs.Refusals.{table_tests}
use Rattle.demand.specs.Rows.{Row, tasks_of, handlers_of}
use Rattle.demand.specs.Tests.{first_refusal}
use Rattle.demand.specs.declared.refusal.Refusal.{Refusal}
use Rattle.verdict.specs.Lengths.{AlwaysPasses, LeastFailing}
use Rattle.verdict.specs.Loads.{load}
use Rattle.verdict.specs.Multiples.{common}
use Rattle.verdict.specs.Tested.{tested, YesCount}
use Rattle.verdict.specs.declared.Answer.{Answer}
use Rattle.verdict.specs.declared.Answer.TheVariants as answer
use Rattle.verdict.specs.declared.Miss.{Miss}

-- 4: H is above 1,000,000,000
unfoldable pub verdict_refusal : List ℕ → List ℕ → ℕ
verdict_refusal t h = first_refusal (table_tests t h ++ ((4, ltb ticks_most (common (tasks_of t) (handlers_of h))) ∷ []))

-- ---- the figures of an answer, spelled here and nowhere else

pub data Word : Type 0 where
  fits : Word
  misses : Word
  refused : Word

pub record Figures : Type 0 where
  pub word : Word
  pub code : ℕ
  pub interval : ℕ
  pub handler : ℕ
  pub task : ℕ
  pub load : ℕ
  pub left : ℕ
  pub tested : ℕ

-- of a yes,
abbrev pub yes_of : ℕ → ℕ → Figures
yes_of load tested = record { word = fits; code = 0; interval = 0; handler = 0; task = 0; load = load; left = 0; tested = tested }

-- of a no,
abbrev pub no_of : Miss → ℕ → Figures
no_of miss load = record {
  word = misses;
  code = 0;
  interval = miss.interval;
  handler = miss.handler;
  task = miss.task;
  load = load;
  left = miss.left;
  tested = miss.tested;
}

-- and of a refusal: its number, all other figures 0
abbrev pub refusal_of : ℕ → Figures
refusal_of number = record { word = refused; code = number; interval = 0; handler = 0; task = 0; load = 0; left = 0; tested = 0 }

unfoldable pub figures : Result Answer Refusal → Figures
figures (Ok (answer.Fits load tested)) = yes_of load tested
figures (Ok (answer.Misses miss load)) = no_of miss load
figures (Err e) = refusal_of (number_of e)

-- the numbers of a line, in its order; for those who read numbers alone that of the word stands before them
abbrev pub numbers_of : Figures → List ℕ
numbers_of g = g.code ∷ g.interval ∷ g.handler ∷ g.task ∷ g.load ∷ g.left ∷ g.tested ∷ []

abbrev pub word_number : Word → ℕ
word_number fits = 0
word_number misses = 1
word_number refused = 2

abbrev pub answer_numbers : Result Answer Refusal → List ℕ
answer_numbers r = word_number (figures r).word ∷ numbers_of (figures r)

-- What is told of an interval that fails: its length, both demands there, the handlers' work left over (02, M-106), and how many lengths
-- were tested up to it (02, M-109).
abbrev pub miss_at : List Row → List Row → ℕ → Miss
miss_at ts hs l = record { interval = l; handler = handled hs l; task = due ts l; left = left hs l; tested = tested ts l }

-- ---- what they say

-- A yes: the table is readable, every length passes, and the test lengths up to the search's end are counted.
pub record SaysFits (t h : List ℕ) (g : Figures) : Type 0 where
  pub readable : verdict_refusal t h ≡ 0
  pub passes : AlwaysPasses (tasks_of t) (handlers_of h)
  pub count : YesCount (tasks_of t) (handlers_of h) g.tested
  pub figures : g ≡ yes_of (load (tasks_of t) (handlers_of h)) g.tested

-- A no: the table is readable, and the shortest length that fails is named with both demands.
pub record SaysMisses (t h : List ℕ) (g : Figures) : Type 0 where
  pub readable : verdict_refusal t h ≡ 0
  pub shortest : LeastFailing (tasks_of t) (handlers_of h) g.interval
  pub figures : g ≡ no_of (miss_at (tasks_of t) (handlers_of h) g.interval) (load (tasks_of t) (handlers_of h))

-- A refusal: the first number that applies, all other figures 0.
pub record SaysRefused (t h : List ℕ) (g : Figures) : Type 0 where
  pub unreadable : 0 < verdict_refusal t h
  pub figures : g ≡ refusal_of (verdict_refusal t h)

unfoldable pub SaysBy : Word → List ℕ → List ℕ → Figures → Type 0
SaysBy fits t h g = SaysFits t h g
SaysBy misses t h g = SaysMisses t h g
SaysBy refused t h g = SaysRefused t h g

unfoldable pub Says : List ℕ → List ℕ → Figures → Type 0
Says t h g = SaysBy g.word t h g

unfoldable pub VerdictSays : List ℕ → List ℕ → Result Answer Refusal → Type 0
VerdictSays t h r = Says t h (figures r)
