-- The segments that the reader has built on its way. No public promise cites this.
--   count_most        == one more than the most segments, for too many
--   Built n ns es    n is the count of the rows es, count_most where they are too many, and else ns has their numbers
--   schedule_for o    == what an outcome comes to as a schedule
--   Grows n ns fs m ms   with the rows fs more, the count n and the numbers ns become m and ms
--   closed o ns       == the schedule of the numbers ns, as many as o says
--   Finishes n o, Closes n ns st o ms   so many numbers are the schedule of what is built, and of a file that then ends at st
use Rattle.std.specs.Prelude.{List, ◌++◌, ◌≡◌, ℕ, ◌+◌, ◌≤◌, min, length, Option, Some, None, Result, Ok, Err}
use Rattle.demand.specs.declared.refusal.Refusal.{Refusal}
use Rattle.demand.specs.declared.refusal.Refusal.TheVariants.{FileMalformed}
use Rattle.schedule_file.specs.File.{Entry}
use Rattle.schedule_file.specs.Inside.Building.{few, few_of, reading, rows_at_end}
use Rattle.schedule_file.specs.Schedule.{numbers_of, filled, schedule_of}
use Rattle.schedule_file.specs.declared.reader.Schedule.{Schedule}
use Rattle.schedule_file.specs.declared.steps.State.{State}
use Rattle.segments.specs.Promise.{segments_most}

abbrev pub count_most : ℕ
count_most = segments_most + 1

pub record Built (n : ℕ) (ns : List ℕ) (es : List Entry) : Type 0 where
  pub count : n ≡ min (length es) count_most
  pub numbers : length es ≤ segments_most → ns ≡ filled (numbers_of es)

abbrev pub schedule_for : Option (List Entry) → Result Schedule Refusal
schedule_for None = Err FileMalformed
schedule_for (Some es) = Ok (schedule_of es)

abbrev pub Grows : ℕ → List ℕ → List Entry → ℕ → List ℕ → Type 0
Grows n ns fs m ms = (es : List Entry) → Built n ns es → Built m ms (es ++ fs)

abbrev pub closed : Option ℕ → List ℕ → Result Schedule Refusal
closed None ns = Err FileMalformed
closed (Some len) ns = Ok (record { len = len; numbers = ns })

abbrev pub Finishes : ℕ → Option ℕ → Type 0
Finishes n o = (ns : List ℕ) (es : List Entry) → Built n ns es → closed o ns ≡ schedule_for (few es)

abbrev pub Closes : ℕ → List ℕ → State → Option ℕ → List ℕ → Type 0
Closes n ns st o ms = (es : List Entry) → Built n ns es → closed o ms ≡ schedule_for (few_of (rows_at_end (reading st es)))
