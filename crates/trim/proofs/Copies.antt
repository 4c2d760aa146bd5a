-- A list copied into a longer one, and one number of the copy changed.
use mathlib.Core.List.{List}
use mathlib.Core.Path.{◌≡◌, ap, sym, ◌∙◌}
use Prim.Native.Nat.{ℕ, ◌<◌}
use lib.ListN.{length, take, set}
use lib.Seq.{take-set-lt, take-length}
use Rattle.trim.specs.Costs.{place_of, with_cost}

-- All of them, with another cost for a task.
pub copy-with : (all t : List ℕ) (n i c : ℕ) → n ≡ length t → place_of i < n → take n all ≡ take n t
    → take (length t) (set all (place_of i) c) ≡ with_cost t i c
unfolding with_cost
copy-with all t n i c e place same =
    ap (λ (m : ℕ). take m (set all (place_of i) c)) (sym e)
    ∙ take-set-lt n all (place_of i) c place
    ∙ ap (λ (s : List ℕ). set s (place_of i) c) (same ∙ ap (λ (m : ℕ). take m t) e ∙ take-length t)
