-- What the licensees' library tells of fixed priorities (02, M-103).
--   ResponsesFigured r k out  k and out are the number and the lengths of the answer r
--   ResponsesTold t h k out   k and out are the number and the lengths of an answer that the promise of `responses` allows
--   ResponsesToldUnique       and so no others
use Rattle.std.specs.Prelude.{List, ◌≡◌, ℕ, Result}
use Rattle.demand.specs.declared.refusal.Refusal.{Refusal}
use Rattle.priority.specs.Answers.{figures, ResponsesSay}

pub record ResponsesFigured (answer : Result (List ℕ) Refusal) (k : ℕ) (out : List ℕ) : Type 0 where
  pub code : k ≡ (figures answer).code
  pub lengths : out ≡ (figures answer).least

pub record ResponsesTold (t h : List ℕ) (k : ℕ) (out : List ℕ) : Type 0 where
  pub answer : Result (List ℕ) Refusal
  pub says : ResponsesSay t h answer
  pub figured : ResponsesFigured answer k out

abbrev pub ResponsesToldUnique : Type 0
ResponsesToldUnique =
    (t h : List ℕ) (j k : ℕ) (a b : List ℕ) → ResponsesTold t h j a → ResponsesTold t h k b → (j ≡ k) × (a ≡ b)
