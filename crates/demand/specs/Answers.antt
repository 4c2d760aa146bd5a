-- What the public calls answer (01, "Numbered refusals" and "Forms for each place").
--   figures, handler_figures, margin_figures   == the paper's number and values for each case of an answer: what does not apply is 0
--   no_figures k             == those of refusal k: its number, all others 0
--   DemandSays k n r           the answer r to a demand of n ticks where the refusal is k, 0 for none
--   HandlerSays k hs l r       the answer r to the handler demand at l, with what is left over (02, M-106)
--   MarginSays k ts hs l r     the answer r to the margin at l where the refusal is k, 0 for none
use Rattle.std.specs.Prelude.{List, ◌≡◌, ℕ, eqb, ℤ, pos, Result, Ok, Err}
use Rattle.demand.specs.Demands.{handled, left, margin, Negative, Fails}
use Rattle.demand.specs.Numbered.{number_of, answered}
use Rattle.demand.specs.Rows.{Row}
use Rattle.demand.specs.Tests.{pick}
use Rattle.demand.specs.declared.Share.{Share}
use Rattle.demand.specs.declared.Spare.{Spare}
use Rattle.demand.specs.declared.refusal.Refusal.{Refusal}

pub record Figures : Type 0 where
  pub code : ℕ
  pub ticks : ℤ
  pub left : ℕ

abbrev pub no_figures : ℕ → Figures
no_figures k = record { code = k; ticks = pos 0; left = 0 }

unfoldable pub figures : Result ℕ Refusal → Figures
figures (Ok n) = record { code = 0; ticks = pos n; left = 0 }
figures (Err e) = no_figures (number_of e)

unfoldable pub handler_figures : Result Share Refusal → Figures
handler_figures (Ok share) = record { code = 0; ticks = pos share.ticks; left = share.left }
handler_figures (Err e) = no_figures (number_of e)

unfoldable pub margin_figures : Result Spare Refusal → Figures
margin_figures (Ok spare) = record { code = 0; ticks = spare.ticks; left = spare.left }
margin_figures (Err e) = no_figures (number_of e)

-- the figures of a call whose refusal is k and whose values are z and m: the values only where nothing is refused
unfoldable pub figures_by : ℕ → ℤ → ℕ → Figures
figures_by k z m = record { code = k; ticks = pick (eqb k 0) z (pos 0); left = pick (eqb k 0) m 0 }

pub record DemandSays (k n : ℕ) (r : Result ℕ Refusal) : Type 0 where
  pub answer : r ≡ answered k n
  pub figured : figures r ≡ figures_by k (pos n) 0

pub record HandlerSays (k : ℕ) (hs : List Row) (l : ℕ) (r : Result Share Refusal) : Type 0 where
  pub answer : r ≡ answered k (record { ticks = handled hs l; left = left hs l })
  pub figured : handler_figures r ≡ figures_by k (pos (handled hs l)) (left hs l)

-- below 0 exactly where the question is answered and the interval fails
pub record MarginSays (k : ℕ) (ts hs : List Row) (l : ℕ) (r : Result Spare Refusal) : Type 0 where
  pub answer : r ≡ answered k (record { ticks = margin ts hs l; left = left hs l })
  pub figured : margin_figures r ≡ figures_by k (margin ts hs l) (left hs l)
  pub below : Negative (margin_figures r).ticks → (k ≡ 0) × Fails ts hs l
  pub fails : k ≡ 0 → Fails ts hs l → Negative (margin_figures r).ticks
