-- What the licensees' library lays into the caller's numbers: the figures of the promises below it, in their order.
--   demand_numbers r    == the refusal's number or 0, then the ticks
--   handler_numbers r   == the same, then the work left over (02, M-106)
--   demand_refused k, handler_refused k   == those of refusal k
--   DemandFigured, HandlerFigured   those are the figures of the answer; DemandRefused, HandlerRefused: so of a refusal of any number
--   MarginFigured r code ticks left   so are these of a margin
--   VerdictTold t h out, HandlerTold t h l out, TaskTold t h l out, MarginTold t h l code ticks left
--                      the numbers are those of an answer that the promise allows
use Rattle.std.specs.Prelude.{List, [], ◌∷◌, ◌≡◌, ℤ, pos, get_or, ℕ, Result, Ok, Err}
use Rattle.demand.specs.Answers.{no_figures, figures, handler_figures, margin_figures, DemandSays, HandlerSays, MarginSays}
use Rattle.demand.specs.Demands.{due}
use Rattle.demand.specs.Numbered.{number_of}
use Rattle.demand.specs.Refusals.{asked_refusal}
use Rattle.demand.specs.Rows.{tasks_of, handlers_of}
use Rattle.demand.specs.declared.Share.{Share}
use Rattle.demand.specs.declared.Spare.{Spare}
use Rattle.demand.specs.declared.refusal.Refusal.{Refusal}
use Rattle.verdict.specs.Promise.{answer_numbers, VerdictSays}
use Rattle.verdict.specs.declared.Answer.{Answer}

abbrev pub demand_refused : ℕ → List ℕ
demand_refused k = k ∷ 0 ∷ []

abbrev pub handler_refused : ℕ → List ℕ
handler_refused k = k ∷ 0 ∷ 0 ∷ []

abbrev pub demand_numbers : Result ℕ Refusal → List ℕ
demand_numbers (Ok n) = 0 ∷ n ∷ []
demand_numbers (Err e) = demand_refused (number_of e)

abbrev pub handler_numbers : Result Share Refusal → List ℕ
handler_numbers (Ok share) = 0 ∷ share.ticks ∷ share.left ∷ []
handler_numbers (Err e) = handler_refused (number_of e)

abbrev pub DemandFigured : Type 0
DemandFigured = (r : Result ℕ Refusal) → (get_or (demand_numbers r) 0 0 ≡ (figures r).code) × (pos (get_or (demand_numbers r) 1 0) ≡ (figures r).ticks)

abbrev pub HandlerFigured : Type 0
HandlerFigured =
    (r : Result Share Refusal)
    → (get_or (handler_numbers r) 0 0 ≡ (handler_figures r).code)
    × (pos (get_or (handler_numbers r) 1 0) ≡ (handler_figures r).ticks)
    × (get_or (handler_numbers r) 2 0 ≡ (handler_figures r).left)

abbrev pub DemandRefused : Type 0
DemandRefused = (k : ℕ) → (get_or (demand_refused k) 0 0 ≡ (no_figures k).code) × (pos (get_or (demand_refused k) 1 0) ≡ (no_figures k).ticks)

abbrev pub HandlerRefused : Type 0
HandlerRefused =
    (k : ℕ)
    → (get_or (handler_refused k) 0 0 ≡ (no_figures k).code)
    × (pos (get_or (handler_refused k) 1 0) ≡ (no_figures k).ticks)
    × (get_or (handler_refused k) 2 0 ≡ (no_figures k).left)

pub record VerdictTold (t h out : List ℕ) : Type 0 where
  pub answer : Result Answer Refusal
  pub says : VerdictSays t h answer
  pub numbers : out ≡ answer_numbers answer

-- the numbers of a demand of n ticks, where the refusal is k
pub record DemandTold (k n : ℕ) (out : List ℕ) : Type 0 where
  pub answer : Result ℕ Refusal
  pub says : DemandSays k n answer
  pub numbers : out ≡ demand_numbers answer

pub record HandlerTold (t h : List ℕ) (l : ℕ) (out : List ℕ) : Type 0 where
  pub answer : Result Share Refusal
  pub says : HandlerSays (asked_refusal t h l) (handlers_of h) l answer
  pub numbers : out ≡ handler_numbers answer

abbrev pub TaskTold : List ℕ → List ℕ → ℕ → List ℕ → Type 0
TaskTold t h l out = DemandTold (asked_refusal t h l) (due (tasks_of t) l) out

pub record MarginFigured (answer : Result Spare Refusal) (number : ℕ) (out : ℤ) (over : ℕ) : Type 0 where
  pub code : number ≡ (margin_figures answer).code
  pub ticks : out ≡ (margin_figures answer).ticks
  pub left : over ≡ (margin_figures answer).left

pub record MarginTold (t h : List ℕ) (l number : ℕ) (out : ℤ) (over : ℕ) : Type 0 where
  pub answer : Result Spare Refusal
  pub says : MarginSays (asked_refusal t h l) (tasks_of t) (handlers_of h) l answer
  pub figured : MarginFigured answer number out over
