-- What the licensees' library tells of a schedule that is judged (02, M-110).
--   JudgeTold t h s n out   out are the numbers of an answer that the promise of `judge` allows: word, refusal's number, tick
--   JudgeToldUnique         and so no others
use Rattle.std.specs.Prelude.{List, ◌≡◌, ℕ, Result, Option}
use Rattle.demand.specs.declared.refusal.Refusal.{Refusal}
use Rattle.segments.specs.Promise.{answer_numbers, JudgeSays}

pub record JudgeTold (t h s : List ℕ) (n : ℕ) (out : List ℕ) : Type 0 where
  pub answer : Result (Option ℕ) Refusal
  pub says : JudgeSays t h s n answer
  pub numbers : out ≡ answer_numbers answer

abbrev pub JudgeToldUnique : Type 0
JudgeToldUnique = (t h s : List ℕ) (n : ℕ) (a b : List ℕ) → JudgeTold t h s n a → JudgeTold t h s n b → a ≡ b
