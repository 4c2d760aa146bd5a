-- What `responses` answers (02, M-103; 01, "Numbered refusals").
--   figures r              == the number and values of an answer
--   no_lengths              == no length at all: 64 times 0
--   figures_by k ls         == the figures of a call whose refusal is k and whose lengths are ls: lengths only where nothing is refused
--   ResponsesSay t h r     r is the answer to the table t, h: refusals 1, 2, 3 and 13 in this order, else the response of each task
--   ResponsesUnique        two answers that the promise allows are equal
use Rattle.std.specs.Prelude.{List, ◌≡◌, ℕ, eqb, replicate, Result, Ok, Err}
use Rattle.demand.specs.Limits.{tasks_most}
use Rattle.demand.specs.Numbered.{number_of, answered}
use Rattle.demand.specs.Refusals.{table_refusal}
use Rattle.demand.specs.Rows.{tasks_of, handlers_of}
use Rattle.demand.specs.Tests.{pick}
use Rattle.demand.specs.declared.refusal.Refusal.{Refusal}
use Rattle.priority.specs.Responses.{leasts}

pub record Figures : Type 0 where
  pub code : ℕ
  pub least : List ℕ

unfoldable pub no_lengths : List ℕ
no_lengths = replicate tasks_most 0

unfoldable pub figures : Result (List ℕ) Refusal → Figures
figures (Ok ls) = record { code = 0; least = ls }
figures (Err e) = record { code = number_of e; least = no_lengths }

unfoldable pub figures_by : ℕ → List ℕ → Figures
figures_by k ls = record { code = k; least = pick (eqb k 0) ls no_lengths }

pub record ResponsesSay (t h : List ℕ) (r : Result (List ℕ) Refusal) : Type 0 where
  pub answer : r ≡ answered (table_refusal t h) (leasts (tasks_of t) (handlers_of h))
  pub figured : figures r ≡ figures_by (table_refusal t h) (leasts (tasks_of t) (handlers_of h))

abbrev pub ResponsesUnique : Type 0
ResponsesUnique = (t h : List ℕ) (r s : Result (List ℕ) Refusal) → ResponsesSay t h r → ResponsesSay t h s → r ≡ s
