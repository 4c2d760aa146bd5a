-- A milder guard (02, M-107): N or any measured cost lowered, its gap kept. One relation over both kinds.
--   bursty g       == its kind
--   counts_of g     == what may be lowered: each measured cost, and N of a bursty guard
--   AtMost ms ns   each number of ms is at most that of ns at the same place
--   Milder g' g    g' is the guard g with N or any measured cost lowered
use Rattle.std.specs.Prelude.{Bool, true, false, List, [], ◌∷◌, ◌≡◌, ℕ, ◌≤◌}
use Rattle.guards.specs.Guards.{gap_of}
use Rattle.guards.specs.declared.Guard.{Guard}
use Rattle.guards.specs.declared.Guard.TheVariants.{Strict, Bursty}

abbrev pub bursty : Guard → Bool
bursty (Strict int flip setup work expire gap) = false
bursty (Bursty n int flip work expire count clear gap) = true

abbrev pub counts_of : Guard → List ℕ
counts_of (Strict int flip setup work expire gap) = int ∷ flip ∷ setup ∷ work ∷ expire ∷ []
counts_of (Bursty n int flip work expire count clear gap) = n ∷ int ∷ flip ∷ work ∷ expire ∷ count ∷ clear ∷ []

abbrev pub AtMost : List ℕ → List ℕ → Type 0
AtMost [] [] = Unit
AtMost [] (n ∷ ns) = ⊥
AtMost (m ∷ ms) [] = ⊥
AtMost (m ∷ ms) (n ∷ ns) = (m ≤ n) × AtMost ms ns

pub record Milder (g' g : Guard) : Type 0 where
  pub kind : bursty g' ≡ bursty g
  pub gap : gap_of g' ≡ gap_of g
  pub counts : AtMost (counts_of g') (counts_of g)
