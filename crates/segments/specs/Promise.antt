-- What `judge` promises (02, M-110), on every input.
--   segments_most           == the most segments
--   unknown n m w          == w is not a row of a table of n tasks and m handlers
--   misplaced n m L a s    == segment s is of no row of such a table, starts before tick a, is empty or ends after the span L
--   disordered n m L a ss  == some segment of ss is misplaced behind the end of the one before it, the first behind a
--   unreadable t h s L     == the test of 16; span_outside t h L that of 17
--   judge_tests t h s L     == the table's own refusal, 16 and 17, each a number beside its test
--   judge_refusal t h s L   == the first of 1, 2, 3, 13, 4, 16 and 17 that applies, 0 where none does
--   figures r              == the word, number and tick for each case of an answer; what does not apply is 0
--   accepted_of, broken_of, refusal_of   == those of a schedule that is accepted, of one that is broken first at a tick, and of a refusal
--   numbers_of g            == the numbers of the figures g, in the order of the printed line
--   answer_numbers r        == those of an answer, behind the number of its word
--   JudgeSays t h s L r    r is the answer to the table t, h, the segments s and the span L
use Rattle.std.specs.Prelude.{Bool, true, false, ◌||◌, List, [], ◌∷◌, ◌≡◌, ℕ, ◌/◌, ◌%◌, ◌<◌, eqb, leb, ltb, length, Result, Ok, Err, Option, Some, None}
use Rattle.demand.specs.Numbered.{number_of}
use Rattle.demand.specs.Rows.{tasks_of, handlers_of}
use Rattle.demand.specs.Tests.{first_refusal}
use Rattle.demand.specs.declared.refusal.Refusal.{Refusal}
use Rattle.segments.specs.Given.{Who, nobody, task, handler}
use Rattle.segments.specs.Rules.{Accepted, FirstBroken}
use Rattle.segments.specs.Segments.{Seg, segments_of, segment_width, at}
use Rattle.verdict.specs.Multiples.{common}
use Rattle.verdict.specs.Promise.{verdict_refusal}

-- ---- refusals

abbrev pub segments_most : ℕ
segments_most = 2048

abbrev pub unknown : ℕ → ℕ → Who → Bool
unknown n m nobody = true
unknown n m (task i) = leb n i
unknown n m (handler j) = leb m j

abbrev pub misplaced : ℕ → ℕ → ℕ → ℕ → Seg → Bool
misplaced n m L a s = unknown n m s.who || ltb s.from a || leb s.to s.from || ltb L s.to

unfoldable pub disordered : ℕ → ℕ → ℕ → ℕ → List Seg → Bool
disordered n m L a [] = false
disordered n m L a (s ∷ ss) = misplaced n m L a s || disordered n m L s.to ss

-- 16: the list is not in fours, has too many segments, or some are not in order
abbrev pub unreadable : List ℕ → List ℕ → List ℕ → ℕ → Bool
unreadable t h s L =
    ltb 0 (length s % segment_width)
    || ltb segments_most (length s / segment_width)
    || disordered (length (tasks_of t)) (length (handlers_of h)) L 0 (segments_of s)

-- 17: span 0 or above H, after 16
abbrev pub span_outside : List ℕ → List ℕ → ℕ → Bool
span_outside t h L = eqb L 0 || ltb (common (tasks_of t) (handlers_of h)) L

unfoldable pub judge_tests : List ℕ → List ℕ → List ℕ → ℕ → List (ℕ × Bool)
judge_tests t h s L = (verdict_refusal t h, ltb 0 (verdict_refusal t h)) ∷ (16, unreadable t h s L) ∷ (17, span_outside t h L) ∷ []

unfoldable pub judge_refusal : List ℕ → List ℕ → List ℕ → ℕ → ℕ
judge_refusal t h s L = first_refusal (judge_tests t h s L)

-- ---- the figures of an answer, spelled here and nowhere else

pub data Word : Type 0 where
  accepted : Word
  broken : Word
  refused : Word

pub record Figures : Type 0 where
  pub word : Word
  pub code : ℕ
  pub tick : ℕ

abbrev pub accepted_of : Figures
accepted_of = record { word = accepted; code = 0; tick = 0 }

abbrev pub broken_of : ℕ → Figures
broken_of tick = record { word = broken; code = 0; tick = tick }

abbrev pub refusal_of : ℕ → Figures
refusal_of number = record { word = refused; code = number; tick = 0 }

unfoldable pub figures : Result (Option ℕ) Refusal → Figures
figures (Ok None) = accepted_of
figures (Ok (Some tick)) = broken_of tick
figures (Err e) = refusal_of (number_of e)

abbrev pub numbers_of : Figures → List ℕ
numbers_of g = g.code ∷ g.tick ∷ []

abbrev pub word_number : Word → ℕ
word_number accepted = 0
word_number broken = 1
word_number refused = 2

abbrev pub answer_numbers : Result (Option ℕ) Refusal → List ℕ
answer_numbers r = word_number (figures r).word ∷ numbers_of (figures r)

-- ---- what they say

-- Accepted: no rule is broken up to the span.
pub record SaysAccepted (t h s : List ℕ) (L : ℕ) (g : Figures) : Type 0 where
  pub answered : judge_refusal t h s L ≡ 0
  pub accepted : Accepted (tasks_of t) (handlers_of h) (at (segments_of s)) L
  pub figures : g ≡ accepted_of

-- Broken: the first tick at which a rule is broken; for unfinished work that is its deadline.
pub record SaysBroken (t h s : List ℕ) (L : ℕ) (g : Figures) : Type 0 where
  pub answered : judge_refusal t h s L ≡ 0
  pub first : FirstBroken (tasks_of t) (handlers_of h) (at (segments_of s)) L g.tick
  pub figures : g ≡ broken_of g.tick

-- A refusal: the first number that applies, all other figures 0.
pub record SaysRefused (t h s : List ℕ) (L : ℕ) (g : Figures) : Type 0 where
  pub unanswered : 0 < judge_refusal t h s L
  pub figures : g ≡ refusal_of (judge_refusal t h s L)

unfoldable pub SaysBy : Word → List ℕ → List ℕ → List ℕ → ℕ → Figures → Type 0
SaysBy accepted t h s L g = SaysAccepted t h s L g
SaysBy broken t h s L g = SaysBroken t h s L g
SaysBy refused t h s L g = SaysRefused t h s L g

unfoldable pub Says : List ℕ → List ℕ → List ℕ → ℕ → Figures → Type 0
Says t h s L g = SaysBy g.word t h s L g

unfoldable pub JudgeSays : List ℕ → List ℕ → List ℕ → ℕ → Result (Option ℕ) Refusal → Type 0
JudgeSays t h s L r = Says t h s L (figures r)
