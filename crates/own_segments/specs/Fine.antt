-- Our own segments and the rules of the judge (02, M-110): after a yes they break none; after a no they break the first at the
-- interval that the sheet names.
--   OwnAccepted   where every length up to the span passes, our own segments are accepted
--   OwnBroken     where l is the shortest length that fails, and is within the span, they break a rule first at l
--   JudgedFine    so where they fit the limit `judge` accepts them after a yes
--   JudgedLate    and after a no, of a span that has the named interval in it, names that interval
use Rattle.demand.specs.declared.refusal.Refusal.{Refusal}
use Rattle.std.specs.Prelude.{List, ◌≡◌, ℕ, ◌≤◌, length, Result, Option}
use Rattle.demand.specs.Rows.{tasks_of, handlers_of}
use Rattle.own_segments.specs.Drawn.{numbers_of}
use Rattle.own_segments.specs.Promise.{own_refusal, own_segments}
use Rattle.segments.specs.Promise as judge
use Rattle.segments.specs.Rules.{Accepted, FirstBroken}
use Rattle.segments.specs.Segments.{at}
use Rattle.verdict.specs.Promise.{figures, VerdictSays}
use Rattle.verdict.specs.Promise.Word.{fits, misses}
use Rattle.verdict.specs.declared.Answer as verdict

abbrev pub OwnAccepted : Type 0
OwnAccepted =
    (t h : List ℕ) (L : ℕ) (r : Result verdict.Answer Refusal) → VerdictSays t h r → (figures r).word ≡ fits → own_refusal t h L ≡ 0
    → Accepted (tasks_of t) (handlers_of h) (at (own_segments t h L)) L

abbrev pub OwnBroken : Type 0
OwnBroken =
    (t h : List ℕ) (L : ℕ) (r : Result verdict.Answer Refusal) → VerdictSays t h r → (figures r).word ≡ misses → own_refusal t h L ≡ 0
    → (figures r).interval ≤ L
    → FirstBroken (tasks_of t) (handlers_of h) (at (own_segments t h L)) L (figures r).interval

abbrev pub JudgedFine : Type 0
JudgedFine =
    (t h : List ℕ) (L : ℕ) (r : Result verdict.Answer Refusal) (a : Result (Option ℕ) Refusal) → VerdictSays t h r → (figures r).word ≡ fits
    → own_refusal t h L ≡ 0 → length (own_segments t h L) ≤ judge.segments_most
    → judge.JudgeSays t h (numbers_of (own_segments t h L)) L a → judge.figures a ≡ judge.accepted_of

abbrev pub JudgedLate : Type 0
JudgedLate =
    (t h : List ℕ) (L : ℕ) (r : Result verdict.Answer Refusal) (a : Result (Option ℕ) Refusal) → VerdictSays t h r
    → (figures r).word ≡ misses → own_refusal t h L ≡ 0 → length (own_segments t h L) ≤ judge.segments_most → (figures r).interval ≤ L
    → judge.JudgeSays t h (numbers_of (own_segments t h L)) L a → judge.figures a ≡ judge.broken_of (figures r).interval
