-- A table without a refusal has whole rows and room in a run; how a fresh run is put together.
use mathlib.Core.Bool.{false}
use mathlib.Core.List.{List, ◌++◌}
use mathlib.Core.Path.{◌≡◌, refl}
use native.Mathlib.Omega.{arith}
use borrow.Author.Tests.{eq-eqb, ne_eqb}
use Prim.Native.Nat.{ℕ, zero, suc, ◌-◌, ◌*◌, ◌≤◌}
use lib.ListN.{length, drop, replicate}
use Rattle.std.specs.Prelude.{None, Ok, Err}
use Rattle.demand.proofs.Numbered.{refusal_at-number, number-pos}
use Rattle.demand.proofs.Refusals.{refusal-in-range, refusal-whole}
use Rattle.demand.specs.Limits.{tasks_most}
use Rattle.demand.specs.Numbered.{number_of, refusal_at}
use Rattle.demand.specs.Refusals.{table_tests, table_refusal, InRange}
use Rattle.demand.specs.Rows.{tasks_of, handlers_of}
use Rattle.demand.specs.declared.refusal.Refusal.{Refusal}
use Rattle.scheduler.specs.Runs.{run_of, task_numbers, handler_numbers, row_places}
use Rattle.scheduler.specs.Start.{padded, zeros, fresh_run, no_run, fresh_of}
use Rattle.scheduler.proofs.Steps.Known.{first-known}

pub record Whole (t h : List ℕ) : Type 0 where
  pub tasks : length t ≡ 3 * length (tasks_of t)
  pub handlers : length h ≡ 2 * length (handlers_of h)
  pub in-range : InRange (tasks_of t) (handlers_of h)

pub whole : (t h : List ℕ) → table_refusal t h ≡ 0 → Whole t h
whole t h e = let counts = refusal-whole t h e in record { tasks = counts.0; handlers = counts.1; in-range = refusal-in-range t h e }

pub tasks-fit : (t h : List ℕ) → table_refusal t h ≡ 0 → length t ≤ task_numbers
tasks-fit t h e = let w = whole t h e in omega (arith, w.tasks, w.in-range.tasks-most)

pub handlers-fit : (t h : List ℕ) → table_refusal t h ≡ 0 → length h ≤ handler_numbers
handlers-fit t h e = let w = whole t h e in omega (arith, w.handlers, w.in-range.handlers-most)

-- ---- the fresh run

pub drop-replicate : (k n : ℕ) → drop {A = ℕ} k (replicate n 0) ≡ replicate (n - k) 0
drop-replicate zero n = let e : n - 0 ≡ n = omega arith in rw e
drop-replicate (suc k) zero = let e : 0 - suc k ≡ 0 = omega arith in rw e
drop-replicate (suc k) (suc n) = let e : suc n - suc k ≡ n - k = omega arith in rw e (drop-replicate k n)

pub fresh-made : (t h ts hs : List ℕ) (n m : ℕ) → ts ≡ t ++ drop (length t) (replicate task_numbers 0) → hs ≡ h ++ drop (length h) (replicate handler_numbers 0)
    → n ≡ length (tasks_of t) → m ≡ length (handlers_of h)
    → run_of ts hs n m 0 (zeros row_places) (zeros tasks_most) (zeros row_places) false None ≡ fresh_run t h
unfolding fresh_run padded
fresh-made t h ts hs n m et eh en em =
    rw (et, eh, en, em, drop-replicate (length t) task_numbers, drop-replicate (length h) handler_numbers)

pub fresh-ready : (t h : List ℕ) → table_refusal t h ≡ 0 → fresh_of t h ≡ record { run = fresh_run t h; answer = Ok tt }
unfolding fresh_of
fresh-ready t h e = simp (eq-eqb _ _ e)

pub fresh-refused : (t h : List ℕ) (e : Refusal) → number_of e ≡ table_refusal t h → fresh_of t h ≡ record { run = no_run; answer = Err e }
unfolding fresh_of
fresh-refused t h e n =
    let some : number_of e ≡ 0 → ⊥ = λ z. omega (arith, number-pos e) in
    rw (← n, ne_eqb (number_of e) 0 some, refusal_at-number e)

-- Each number of a table's tests is a refusal's.
pub table-known : (t h : List ℕ) → (table_refusal t h ≡ 0 → ⊥) → number_of (refusal_at (table_refusal t h)) ≡ table_refusal t h
unfolding table_refusal table_tests
table-known t h = first-known (table_tests t h) (refl, (refl, (refl, (refl, tt))))
