-- What no promise cites.
--   is_fits a             == the verdict's answer a is a yes
--   told_by b             == the verdict's word where that is b
--   Judged t h b         the table is readable, and b is whether the verdict is a yes
--   numbers_most          == the most numbers of a list of tasks
--   Placed t i           task i is in the list t, which is no longer than that
--   CanTry t h i c       cost c may be tried for task i: the table is readable, the task is in it and the cost in range
--   CanSearch t h i m    cost 1 fits and cost m misses
--   turns_most            == the most halvings of a search
--   halved n             == the costs below the greatest, halved n times, rounded down
--   Between t h i m low high n   what a search has found after n turns: low fits, high misses, and so many costs at most lie between them
--   FoundSays t h i m r  r is the cost below m that fits while the next one up misses, found in at most so many turns
use Rattle.std.specs.Prelude.{Bool, true, false, List, ◌≡◌, ℕ, zero, suc, ◌+◌, ◌-◌, ◌*◌, ◌/◌, ◌≤◌, ◌<◌, length}
use Rattle.demand.specs.Limits.{figure_most, tasks_most}
use Rattle.demand.specs.Refusals.{Fair}
use Rattle.demand.specs.Rows.{width}
use Rattle.demand.specs.declared.table.Kind.TheVariants.{Task}
use Rattle.trim.specs.Costs.{place_of, with_cost}
use Rattle.trim.specs.Promise.{Gets}
use Rattle.trim.specs.declared.search.Found.{Found}
use Rattle.verdict.specs.Promise.{Word, verdict_refusal}
use Rattle.verdict.specs.Promise.Word.{fits, misses}
use Rattle.verdict.specs.declared.Answer.{Answer}
use Rattle.verdict.specs.declared.Answer.TheVariants as answer

abbrev pub is_fits : Answer → Bool
is_fits (answer.Fits load tested) = true
is_fits (answer.Misses miss load) = false

abbrev pub told_by : Bool → Word
told_by true = fits
told_by false = misses

pub record Judged (t h : List ℕ) (b : Bool) : Type 0 where
  pub readable : verdict_refusal t h ≡ 0
  pub gets : Gets t h (told_by b)

abbrev pub numbers_most : ℕ
numbers_most = width Task * tasks_most

pub record Placed (t : List ℕ) (i : ℕ) : Type 0 where
  pub place : place_of i < length t
  pub short : length t ≤ numbers_most

pub record CanTry (t h : List ℕ) (i c : ℕ) : Type 0 where
  pub readable : verdict_refusal t h ≡ 0
  pub placed : Placed t i
  pub fair : Fair c

pub record CanSearch (t h : List ℕ) (i m : ℕ) : Type 0 where
  pub readable : verdict_refusal t h ≡ 0
  pub placed : Placed t i
  pub some : 1 < m
  pub most : m ≤ figure_most
  pub low : Gets (with_cost t i 1) h fits
  pub high : Gets (with_cost t i m) h misses

abbrev pub turns_most : ℕ
turns_most = 20

unfoldable pub halved : ℕ → ℕ
halved zero = figure_most - 1
halved (suc n) = halved n / 2

pub record Between (t h : List ℕ) (i m low high n : ℕ) : Type 0 where
  pub least : 1 ≤ low
  pub order : low < high
  pub most : high ≤ m
  pub fits : Gets (with_cost t i low) h fits
  pub misses : Gets (with_cost t i high) h misses
  pub gap : high ≤ low + 1 + halved n
  pub turns : n ≤ turns_most

pub record FoundSays (t h : List ℕ) (i m : ℕ) (r : Found) : Type 0 where
  pub least : 1 ≤ r.cost
  pub less : r.cost < m
  pub low : Gets (with_cost t i r.cost) h fits
  pub next : Gets (with_cost t i (r.cost + 1)) h misses
  pub turns : r.turns ≤ turns_most
