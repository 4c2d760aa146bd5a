-- A promise allows one answer (01, "How much each statement must say").
--   DemandUnique, HandlerUnique, MarginUnique   two answers that a promise allows are equal
use Rattle.std.specs.Prelude.{List, ◌≡◌, ℕ, Result}
use Rattle.demand.specs.Answers.{DemandSays, HandlerSays, MarginSays}
use Rattle.demand.specs.Rows.{Row}
use Rattle.demand.specs.declared.Share.{Share}
use Rattle.demand.specs.declared.Spare.{Spare}
use Rattle.demand.specs.declared.refusal.Refusal.{Refusal}

abbrev pub DemandUnique : Type 0
DemandUnique = (k n : ℕ) (r s : Result ℕ Refusal) → DemandSays k n r → DemandSays k n s → r ≡ s

abbrev pub HandlerUnique : Type 0
HandlerUnique = (k : ℕ) (hs : List Row) (l : ℕ) (r s : Result Share Refusal) → HandlerSays k hs l r → HandlerSays k hs l s → r ≡ s

abbrev pub MarginUnique : Type 0
MarginUnique = (k : ℕ) (ts hs : List Row) (l : ℕ) (r s : Result Spare Refusal) → MarginSays k ts hs l r → MarginSays k ts hs l s → r ≡ s
