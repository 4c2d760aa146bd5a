-- What an answer of `responses` says of the table: its lengths are the responses of its tasks.
use mathlib.Core.List.{List}
use mathlib.Core.Path.{◌≡◌, sym, ap, ◌∙◌}
use native.Mathlib.Omega.{arith}
use Prim.Native.Nat.{ℕ, ◌<◌}
use lib.ListN.{length, get_or}
use Rattle.demand.specs.declared.refusal.Refusal.{Refusal}
use Rattle.std.specs.Prelude.{Result}
use Rattle.demand.specs.Limits.{tasks_most}
use Rattle.demand.specs.Refusals.{table_refusal}
use Rattle.demand.specs.Rows.{tasks_of, handlers_of}
use Rattle.demand.proofs.Refusals.{refusal-in-range}
use Rattle.priority.specs.Answers as priority
use Rattle.priority.specs.Responses.{response, leasts, Responds}
use Rattle.priority.proofs.Inside.Search.{listed_at}
use Rattle.guarantees.specs.Priority.{length_of, EachResponds}

module _ (t h : List ℕ) (p : Result (List ℕ) Refusal) (says : priority.ResponsesSay t h p) (accepted : (priority.figures p).code ≡ 0) where
  -- It is not refused,
  pub says-table : table_refusal t h ≡ 0
  unfolding priority.figures_by
  says-table = ap (λ (f : priority.Figures). f.code) (sym says.figured) ∙ accepted

  -- and each length is the task's response.
  pub says-length : (i : ℕ) → i < length (tasks_of t) → length_of p i ≡ response (tasks_of t) (handlers_of h) i
  unfolding priority.figures_by leasts
  says-length i place =
      let least : (priority.figures p).least ≡ leasts (tasks_of t) (handlers_of h) =
      ap (λ (f : priority.Figures). f.least) says.figured ∙ rw says-table in
      let few : i < tasks_most = omega (arith, (refusal-in-range t h says-table).tasks-most) in
      ap (λ (ls : List ℕ). get_or ls i 0) least ∙ listed_at (response (tasks_of t) (handlers_of h)) tasks_most i few

pub says-responds : (t h : List ℕ) (p : Result (List ℕ) Refusal) → EachResponds t h p → Responds (tasks_of t) (handlers_of h)
says-responds t h p each i place = omega (arith, each.each i place, says-length t h p each.says each.accepted i place)
