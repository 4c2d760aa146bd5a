-- The promise allows one answer (01, "How much each statement must say").
--   ChargeUnique   two answers that the promise allows are equal
use Rattle.std.specs.Prelude.{List, ◌≡◌, ℕ, Result}
use Rattle.charges.specs.Promise.{ChargeSays}
use Rattle.charges.specs.declared.Charged.{Charged}
use Rattle.demand.specs.declared.refusal.Refusal.{Refusal}

abbrev pub ChargeUnique : Type 0
ChargeUnique = (t h : List ℕ) (q : ℕ) (r s : Result Charged Refusal) → ChargeSays t h q r → ChargeSays t h q s → r ≡ s
