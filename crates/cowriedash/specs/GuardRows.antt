-- What the licensees' library tells of guarded interrupts (02, M-107).
--   guard_of b ns        == the guard, bursty if b, whose counts ns are n, int, flip, setup, work, expire, count, clear, gap in this order;
--                          those that its kind has not are not read
--   row_numbers r        == the refusal's number or 0, the costs of interrupt and timer, their period
--   rows_refused k      == those of refusal k
--   RowsFigured         those are the figures of the answer; RowsRefused: so of a refusal of any number
--   GuardTold b ns out  out are the numbers of an answer that the promise of `rows` allows
--   GuardToldUnique     and so no others
use Rattle.std.specs.Prelude.{Bool, true, false, List, [], ◌∷◌, ◌≡◌, get_or, ℕ, Result, Ok, Err}
use Rattle.demand.specs.Numbered.{number_of}
use Rattle.demand.specs.declared.refusal.Refusal.{Refusal}
use Rattle.guards.specs.Answers.{no_figures, figures, RowsSay}
use Rattle.guards.specs.declared.Guard.{Guard}
use Rattle.guards.specs.declared.Guard.TheVariants.{Strict, Bursty}
use Rattle.guards.specs.declared.Pair.{Pair}

abbrev at : List ℕ → ℕ → ℕ
at ns k = get_or ns k 0

abbrev pub guard_of : Bool → List ℕ → Guard
guard_of true ns = Bursty (at ns 0) (at ns 1) (at ns 2) (at ns 4) (at ns 5) (at ns 6) (at ns 7) (at ns 8)
guard_of false ns = Strict (at ns 1) (at ns 2) (at ns 3) (at ns 4) (at ns 5) (at ns 8)

abbrev pub rows_refused : ℕ → List ℕ
rows_refused k = k ∷ 0 ∷ 0 ∷ 0 ∷ []

abbrev pub row_numbers : Result Pair Refusal → List ℕ
row_numbers (Ok pair) = 0 ∷ pair.interrupt ∷ pair.timer ∷ pair.period ∷ []
row_numbers (Err e) = rows_refused (number_of e)

abbrev pub RowsFigured : Type 0
RowsFigured = (r : Result Pair Refusal) → row_numbers r ≡ (figures r).code ∷ (figures r).interrupt ∷ (figures r).timer ∷ (figures r).period ∷ []

abbrev pub RowsRefused : Type 0
RowsRefused = (k : ℕ) → rows_refused k ≡ (no_figures k).code ∷ (no_figures k).interrupt ∷ (no_figures k).timer ∷ (no_figures k).period ∷ []

pub record GuardTold (b : Bool) (ns out : List ℕ) : Type 0 where
  pub answer : Result Pair Refusal
  pub says : RowsSay (guard_of b ns) answer
  pub numbers : out ≡ row_numbers answer

abbrev pub GuardToldUnique : Type 0
GuardToldUnique = (b : Bool) (ns x y : List ℕ) → GuardTold b ns x → GuardTold b ns y → x ≡ y
