-- What `of_table` promises (02, M-110), on every input.
--   own_refusal t h L      == the refusal of judging no segments: the table's own (1, 2, 3, 13, 4), then 17; 0 where none applies
--   own_segments t h L     == the segments of our scheduler's synchronous run before the span's end
--   room_in n              == the most segments that a list of n numbers takes: 2,048, or fewer where it is shorter
--   figures r             == the word, number and values for each case of an answer; what does not apply is 0
--   segments_figures, too_many_figures, refusal_figures   == those of segments, of too many and of a refusal
--   Laid old new s        what is lent holds the numbers s, and zeros behind them
--   OwnSays t h L old new r   r is the answer to the table t, h and the span L, and new what is left in the list lent as old
use Rattle.demand.specs.Numbered.{number_of}
use Rattle.demand.specs.declared.refusal.Refusal.{Refusal}
use Rattle.std.specs.Prelude.{List, [], ◌≡◌, ℕ, ◌/◌, ◌≤◌, ◌<◌, min, length, Result, Ok, Err}
use Rattle.own_segments.specs.Drawn.{segments_to, numbers_of, Stops}
use Rattle.own_segments.specs.Own.{own, Ending}
use Rattle.own_segments.specs.declared.Answer.{Answer}
use Rattle.own_segments.specs.declared.Answer.TheVariants as answer
use Rattle.scheduler.specs.Start.{padded}
use Rattle.segments.specs.Promise.{segments_most, judge_refusal}
use Rattle.segments.specs.Segments.{Seg, segment_width, InOrder, Agrees}

unfoldable pub own_refusal : List ℕ → List ℕ → ℕ → ℕ
own_refusal t h L = judge_refusal t h [] L

abbrev pub own_segments : List ℕ → List ℕ → ℕ → List Seg
own_segments t h L = segments_to (own t h) L

unfoldable pub room_in : ℕ → ℕ
room_in n = min segments_most (n / segment_width)

-- ---- the figures of an answer

pub data Word : Type 0 where
  segments : Word
  too_many : Word
  refused : Word

pub record Figures : Type 0 where
  pub word : Word
  pub code : ℕ
  pub count : ℕ
  pub end : ℕ

abbrev pub segments_figures : ℕ → ℕ → Figures
segments_figures count end = record { word = segments; code = 0; count = count; end = end }

abbrev pub too_many_figures : Figures
too_many_figures = record { word = too_many; code = 0; count = 0; end = 0 }

abbrev pub refusal_figures : ℕ → Figures
refusal_figures number = record { word = refused; code = number; count = 0; end = 0 }

unfoldable pub figures : Result Answer Refusal → Figures
figures (Ok (answer.Segments count end)) = segments_figures count end
figures (Ok answer.TooMany) = too_many_figures
figures (Err e) = refusal_figures (number_of e)

-- ---- what they say

abbrev pub Laid : List ℕ → List ℕ → List ℕ → Type 0
Laid old new s = new ≡ padded (length old) s

-- The segments are in time order, joined, and at every tick before the span's end name whom the step ran: nobody once the run is over.
pub record SaysSegments (t h : List ℕ) (L : ℕ) (old new : List ℕ) (g : Figures) : Type 0 where
  pub answered : own_refusal t h L ≡ 0
  pub few : length (own_segments t h L) ≤ room_in (length old)
  pub laid : Laid old new (numbers_of (own_segments t h L))
  pub in_order : InOrder 0 (own_segments t h L)
  pub joined : Stops (own t h) L (own_segments t h L)
  pub agrees : Agrees (own t h) (own_segments t h L) 0 L
  pub ending : Ending t h L g.end
  pub figures : g ≡ segments_figures (length (own_segments t h L)) g.end

-- There are more than there is room for: none are told.
pub record SaysTooMany (t h : List ℕ) (L : ℕ) (old new : List ℕ) (g : Figures) : Type 0 where
  pub answered : own_refusal t h L ≡ 0
  pub many : room_in (length old) < length (own_segments t h L)
  pub laid : Laid old new []
  pub figures : g ≡ too_many_figures

-- A refusal: the first number that applies, all other figures 0.
pub record SaysRefused (t h : List ℕ) (L : ℕ) (old new : List ℕ) (g : Figures) : Type 0 where
  pub unanswered : 0 < own_refusal t h L
  pub laid : Laid old new []
  pub figures : g ≡ refusal_figures (own_refusal t h L)

unfoldable pub SaysBy : Word → List ℕ → List ℕ → ℕ → List ℕ → List ℕ → Figures → Type 0
SaysBy segments t h L old new g = SaysSegments t h L old new g
SaysBy too_many t h L old new g = SaysTooMany t h L old new g
SaysBy refused t h L old new g = SaysRefused t h L old new g

unfoldable pub OwnSays : List ℕ → List ℕ → ℕ → List ℕ → List ℕ → Result Answer Refusal → Type 0
OwnSays t h L old new r = SaysBy (figures r).word t h L old new (figures r)
