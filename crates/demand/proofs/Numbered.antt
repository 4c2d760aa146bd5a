-- Laws of numbered refusals.
use mathlib.Core.Path.{◌≡◌, refl, ap, sym, ◌∙◌}
use native.Mathlib.Omega.{arith}
use Prim.Native.Nat.{ℕ, zero, suc, ◌<◌}
use lib.Dec.{eqb-suc-zero}
use Rattle.std.specs.Prelude.{Result, Ok, Err}
use Rattle.demand.specs.Numbered.{number_of, refusal_at, refused, answered, Numbers}
use Rattle.demand.specs.declared.refusal.Refusal.{Refusal}
use Rattle.demand.specs.declared.refusal.Refusal.TheVariants.{Uneven, Miscounted, RowOutOfRange, MultipleTooLarge, IntervalTooLong, RunOutOfBounds, RunOver}
use Rattle.demand.specs.declared.refusal.Refusal.TheVariants.{ClockAtEnd, ArrivalsMiscounted, ArrivalEarly, ArrivalHeavy, FileMalformed, DeadlineOutOfRange}
use Rattle.demand.specs.declared.refusal.Refusal.TheVariants.{BurstOutOfRange, SegmentsUnreadable, SpanOutOfRange, NoSuchTask, QuantumOutOfRange}

-- Each refusal is that of its number,
pub refusal_at-number : Numbers
refusal_at-number Uneven = refl
refusal_at-number Miscounted = refl
refusal_at-number RowOutOfRange = refl
refusal_at-number MultipleTooLarge = refl
refusal_at-number IntervalTooLong = refl
refusal_at-number RunOutOfBounds = refl
refusal_at-number RunOver = refl
refusal_at-number ClockAtEnd = refl
refusal_at-number ArrivalsMiscounted = refl
refusal_at-number ArrivalEarly = refl
refusal_at-number ArrivalHeavy = refl
refusal_at-number FileMalformed = refl
refusal_at-number DeadlineOutOfRange = refl
refusal_at-number BurstOutOfRange = refl
refusal_at-number SegmentsUnreadable = refl
refusal_at-number SpanOutOfRange = refl
refusal_at-number NoSuchTask = refl
refusal_at-number QuantumOutOfRange = refl

-- whose number is never 0,
pub number-pos : (e : Refusal) → 0 < number_of e
number-pos Uneven = omega arith
number-pos Miscounted = omega arith
number-pos RowOutOfRange = omega arith
number-pos MultipleTooLarge = omega arith
number-pos IntervalTooLong = omega arith
number-pos RunOutOfBounds = omega arith
number-pos RunOver = omega arith
number-pos ClockAtEnd = omega arith
number-pos ArrivalsMiscounted = omega arith
number-pos ArrivalEarly = omega arith
number-pos ArrivalHeavy = omega arith
number-pos FileMalformed = omega arith
number-pos DeadlineOutOfRange = omega arith
number-pos BurstOutOfRange = omega arith
number-pos SegmentsUnreadable = omega arith
number-pos SpanOutOfRange = omega arith
number-pos NoSuchTask = omega arith
number-pos QuantumOutOfRange = omega arith

-- and no other has it.
pub number-once : (e f : Refusal) → number_of e ≡ number_of f → e ≡ f
number-once e f z = sym (refusal_at-number e) ∙ ap refusal_at z ∙ refusal_at-number f

-- Nothing is refused: the answer is the value,
pub answered-ok : {A : Type 0} (k : ℕ) (a b : A) → k ≡ 0 → b ≡ a → Ok b ≡ answered k a
unfolding answered
answered-ok zero a b z e = ap Ok e
answered-ok (suc k) a b z e = absurd (omega arith)

-- else the refusal.
pub answered-err : {A : Type 0} (k : ℕ) (a : A) (e : Refusal) → number_of e ≡ k → Err e ≡ answered k a
unfolding answered
answered-err zero a e n = absurd (omega (arith, number-pos e))
answered-err (suc k) a e n = rw (eqb-suc-zero k) (ap Err (sym (refusal_at-number e) ∙ ap refusal_at n))

-- The number of what is told.
pub refused-answered : {A : Type 0} (k : ℕ) (a : A) (r : Result A Refusal) → refused r ≡ k → (k ≡ 0 → r ≡ Ok a) → r ≡ answered k a
refused-answered k a (Ok b) n v = v (sym n) ∙ answered-ok k a a (sym n) refl
refused-answered k a (Err e) n v = answered-err k a e n

-- Where there is a number, the refusal is that number's.
pub answered-refused : {A : Type 0} (k : ℕ) (a : A) → 0 < k → answered k a ≡ Err (refusal_at k)
unfolding answered
answered-refused zero a some = absurd (omega arith)
answered-refused (suc k) a some = rw (eqb-suc-zero k)
