-- A stretch without arrivals (02, M-108): so many steps, each with 0 for every row, and how far they come.
--   quiet r         == the arrivals of a step without any: 0 for each row of run r
--   quietly r       == the answer of that step
--   stretch n r     == the run after n such steps; a step that is refused leaves its run as it is
--   taken n r       == how many of them are accepted
--   end_number n r   == the number of the refusal that ended them, 0 where all n are accepted; of 0 ticks that of a step
--   number_in e     == the number of a refusal, 0 where there is none; refusal_in k == the refusal of the number k, none of 0
--   advance_of r n   == the answer of `advance`
use Rattle.std.specs.Prelude.{◌&&◌, List, Option, None, Some, Result, Ok, Err, ℕ, zero, suc, ◌+◌, ltb, eqb}
use Rattle.advance.specs.declared.Advanced.{Advanced}
use Rattle.demand.specs.Numbered.{number_of, refusal_at}
use Rattle.demand.specs.Tests.{pick}
use Rattle.demand.specs.declared.refusal.Refusal.{Refusal}
use Rattle.scheduler.specs.Runs.{row_count}
use Rattle.scheduler.specs.Start.{zeros}
use Rattle.scheduler.specs.Steps.{step_refusal, step_of}
use Rattle.scheduler.specs.declared.Run.{Run}
use Rattle.scheduler.specs.declared.Stepped.{Stepped}
use Rattle.scheduler.specs.declared.Ticked.{Ticked}

abbrev pub quiet : Run → List ℕ
quiet r = zeros (row_count r)

abbrev pub quietly : Run → Stepped
quietly r = step_of r (quiet r)

unfoldable pub stretch : ℕ → Run → Run
stretch zero r = r
stretch (suc n) r = (quietly (stretch n r)).run

abbrev pub accepted : Result Ticked Refusal → ℕ
accepted (Ok t) = 1
accepted (Err e) = 0

unfoldable pub taken : ℕ → Run → ℕ
taken zero r = 0
taken (suc n) r = taken n r + accepted (quietly (stretch n r)).answer

-- An advance of 0 ticks is refused where a step is.
unfoldable pub end_number : ℕ → Run → ℕ
end_number n r = pick (ltb 0 n && eqb (taken n r) n) 0 (step_refusal (stretch n r) (quiet (stretch n r)))

abbrev pub number_in : Option Refusal → ℕ
number_in None = 0
number_in (Some e) = number_of e

unfoldable pub refusal_in : ℕ → Option Refusal
refusal_in k = pick (eqb k 0) None (Some (refusal_at k))

unfoldable pub advance_of : Run → ℕ → Advanced
advance_of r n = record { run = stretch n r; ticks = taken n r; refusal = refusal_in (end_number n r) }
