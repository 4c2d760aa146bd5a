-- Numbered refusals (01, "Numbered refusals"; 02 from 13 on).
--   number_of e   == the number of a refusal
--   refusal_at k  == the refusal of a number that has one
--   refused r     == the number of the refusal that r is, 0 where it is none
--   answered k a  == the answer of a call whose refusal is k, 0 for none, and whose value is a
--   Numbers       each refusal is that of its number
use Rattle.std.specs.Prelude.{◌≡◌, ℕ, List, [], ◌∷◌, Result, Ok, Err, eqb, get_or}
use Rattle.demand.specs.Tests.{pick}
use Rattle.demand.specs.declared.refusal.Refusal.{Refusal}
use Rattle.demand.specs.declared.refusal.Refusal.TheVariants.{Uneven, Miscounted, RowOutOfRange, MultipleTooLarge, IntervalTooLong, RunOutOfBounds, RunOver}
use Rattle.demand.specs.declared.refusal.Refusal.TheVariants.{ClockAtEnd, ArrivalsMiscounted, ArrivalEarly, ArrivalHeavy, FileMalformed, DeadlineOutOfRange}
use Rattle.demand.specs.declared.refusal.Refusal.TheVariants.{BurstOutOfRange, SegmentsUnreadable, SpanOutOfRange, NoSuchTask, QuantumOutOfRange}

abbrev pub number_of : Refusal → ℕ
number_of Uneven = 1
number_of Miscounted = 2
number_of RowOutOfRange = 3
number_of MultipleTooLarge = 4
number_of IntervalTooLong = 5
number_of RunOutOfBounds = 6
number_of RunOver = 7
number_of ClockAtEnd = 8
number_of ArrivalsMiscounted = 9
number_of ArrivalEarly = 10
number_of ArrivalHeavy = 11
number_of FileMalformed = 12
number_of DeadlineOutOfRange = 13
number_of BurstOutOfRange = 14
number_of SegmentsUnreadable = 16
number_of SpanOutOfRange = 17
number_of NoSuchTask = 18
number_of QuantumOutOfRange = 19

-- by its number, as far as they go; the numbers 0 and 15 are no refusal's
abbrev pub refusals : List Refusal
refusals =
    Uneven ∷ Uneven ∷ Miscounted ∷ RowOutOfRange ∷ MultipleTooLarge ∷ IntervalTooLong ∷ RunOutOfBounds ∷ RunOver ∷ ClockAtEnd
    ∷ ArrivalsMiscounted ∷ ArrivalEarly ∷ ArrivalHeavy ∷ FileMalformed ∷ DeadlineOutOfRange ∷ BurstOutOfRange ∷ Uneven
    ∷ SegmentsUnreadable ∷ SpanOutOfRange ∷ NoSuchTask ∷ QuantumOutOfRange ∷ []

abbrev pub refusal_at : ℕ → Refusal
refusal_at k = get_or refusals k Uneven

abbrev pub refused : {A : Type 0} → Result A Refusal → ℕ
refused (Ok a) = 0
refused (Err e) = number_of e

-- the answer of a call whose refusal is k, 0 for none, and whose value is a
unfoldable pub answered : {A : Type 0} → ℕ → A → Result A Refusal
answered k a = pick (eqb k 0) (Ok a) (Err (refusal_at k))

abbrev pub Numbers : Type 0
Numbers = (e : Refusal) → refusal_at (number_of e) ≡ e
