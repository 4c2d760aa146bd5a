-- Why there is no answer, beside what is written of one.
--   reason k   == the refusal of the number k, none for 0
use Rattle.std.specs.Prelude.{ℕ, eqb, Option, Some, None}
use Rattle.demand.specs.Numbered.{refusal_at}
use Rattle.demand.specs.Tests.{pick}
use Rattle.demand.specs.declared.refusal.Refusal.{Refusal}

unfoldable pub reason : ℕ → Option Refusal
reason k = pick (eqb k 0) None (Some (refusal_at k))
