-- Laws of the charges of a table (specs/Promise): what a readable, plain one allows, and what each case comes to.
use mathlib.Core.Bool.{Bool, true, false, not, ◌&&◌, true≢false}
use mathlib.Core.List.{List}
use mathlib.Core.Path.{◌≡◌, refl, sym, ap, ◌∙◌}
use native.Mathlib.Omega.{arith}
use borrow.Author.Tests.{ltb-false, eqb-true, lt-ltb, ne_eqb}
use lib.Dec.{eqb, ltb}
use Prim.Native.Nat.{ℕ, ◌*◌, ◌≤◌, ◌<◌}
use Rattle.std.specs.Prelude.{Result, Ok, Err, Option, Some, None, is_ok}
use Rattle.charges.specs.Inside.{CanLoad, CanCharge}
use Rattle.charges.specs.Promise.{quantum_most, quantum_outside, charge_of, shorter, charged, by_quantum, by_task, ChargeSays}
use Rattle.charges.specs.Ways.{useful, quantum_cost, task_cost, load_by}
use Rattle.charges.specs.declared.Charge.{Charge}
use Rattle.demand.specs.Demands.{ceil}
use Rattle.demand.specs.Inside.Sizes.{Small}
use Rattle.demand.specs.Limits.{ticks_most}
use Rattle.demand.specs.Multiples.{lcm_from}
use Rattle.demand.specs.Rows.{Row, tasks_of, handlers_of, some}
use Rattle.demand.proofs.Inside.Sizes.{fair-positive}
use Rattle.demand.proofs.Periods.{lcm-from-le, lcm-from-positive}
use Rattle.demand.proofs.Refusals.{neither}
use Rattle.demand.specs.declared.refusal.Refusal.{Refusal}
use Rattle.demand.specs.declared.refusal.Refusal.TheVariants.{QuantumOutOfRange}
use Rattle.verdict.specs.Multiples.{common}
use Rattle.verdict.specs.Promise.{verdict_refusal, VerdictSays, Says, SaysBy, figures}
use Rattle.verdict.specs.declared.Answer as sheet
use Rattle.verdict.specs.declared.Answer.TheVariants as verdict
use Rattle.verdict.proofs.Readable.{readable-in-range, readable-common}

both : (a b : Bool) → true ≡ (a && b) → (a ≡ true) × (b ≡ true)
both true true e = (refl, refl)
both true false e = absurd (true≢false e)
both false b e = absurd (true≢false e)

-- ---- a table of which it is known that it is readable and plain

module _ (t h : List ℕ) (known : true ≡ charged t h) where
  readable : verdict_refusal t h ≡ 0
  readable = eqb-true (verdict_refusal t h) 0 (both _ _ known).0

  tasks-short : lcm_from 1 (tasks_of t) ≤ ticks_most
  unfolding common
  tasks-short =
      let range = readable-in-range t h readable in
      let start = lcm-from-positive 1 (tasks_of t) (omega arith) (fair-positive (tasks_of t) range.tasks) in
      omega (arith, readable-common t h readable, lcm-from-le (lcm_from 1 (tasks_of t)) (handlers_of h) start (fair-positive (handlers_of h) range.handlers))

  pub can-load : CanLoad (tasks_of t)
  can-load = record {
    rows = (readable-in-range t h readable).tasks;
    count = (readable-in-range t h readable).tasks-most;
    ticks = tasks-short;
  }

  pub can-charge : CanCharge (handlers_of h)
  can-charge = record { rows = (readable-in-range t h readable).handlers; count = (readable-in-range t h readable).handlers-most }

  pub handlers-small : (q : ℕ) → q ≤ quantum_most → Small (handlers_of h) q
  handlers-small q short = record {
    rows = (readable-in-range t h readable).handlers;
    count = omega (arith, (readable-in-range t h readable).handlers-most);
    ticks = omega (arith, short);
  }

  -- by quanta: nothing useful,
  pub quantum-useless : (q : ℕ) → useful q (handlers_of h) ≡ 0 → None ≡ by_quantum q t h
  unfolding by_quantum
  quantum-useless q none = rw (sym known, none)

  -- or something,
  pub quantum-charged : (q u l : ℕ) (r : Charge) → u ≡ useful q (handlers_of h) → 0 < u
      → l ≡ load_by (λ (x : Row). q * ceil x.cost u) (tasks_of t) → r ≡ charge_of l → Some r ≡ by_quantum q t h
  unfolding by_quantum
  quantum-charged q u l r eu pos el er =
      let same : l ≡ load_by (quantum_cost q (handlers_of h)) (tasks_of t) = el ∙ ap (λ (v : ℕ). load_by (λ (x : Row). q * ceil x.cost v) (tasks_of t)) eu in
      ap Some er ∙ rw (sym known, lt-ltb 0 (useful q (handlers_of h)) (omega (arith, eu))) (ap (λ (x : ℕ). Some (charge_of x)) same)

  -- and by task.
  pub task-charged : (l : ℕ) (r : Charge) → l ≡ load_by (task_cost (handlers_of h)) (tasks_of t) → r ≡ charge_of l → Some r ≡ by_task t h
  unfolding by_task
  task-charged l r el er = ap Some er ∙ rw (sym known) (ap (λ (x : ℕ). Some (charge_of x)) el)

-- ---- one of which the other is known

pub quantum-unknown : (t h : List ℕ) (q : ℕ) → false ≡ charged t h → None ≡ by_quantum q t h
unfolding by_quantum
quantum-unknown t h q e = rw (sym e)

pub task-unknown : (t h : List ℕ) → false ≡ charged t h → None ≡ by_task t h
unfolding by_task
task-unknown t h e = rw (sym e)

-- ---- what the verdict tells of it

pub told-known : (t h : List ℕ) (a : Result sheet.Answer Refusal) → VerdictSays t h a → (r b : Bool) → r ≡ is_ok a → b ≡ some shorter (tasks_of t)
    → (r && not b) ≡ charged t h
unfolding VerdictSays Says SaysBy figures
told-known t h (Ok (verdict.Fits l n)) says r b er eb = rw (er, eb, says.readable)
told-known t h (Ok (verdict.Misses m l)) says r b er eb = rw (er, eb, says.readable)
told-known t h (Err n) says r b er eb = rw (er, ne_eqb (verdict_refusal t h) 0 (λ e. omega (arith, says.unreadable)))

-- ---- the whole answer

pub inside-short : (q : ℕ) → quantum_outside q ≡ false → q ≤ quantum_most
inside-short q e = ltb-false quantum_most q (neither (eqb q 0) (ltb quantum_most q) e).1

pub says-19 : (t h : List ℕ) (q : ℕ) → quantum_outside q ≡ true → ChargeSays t h q (Err QuantumOutOfRange)
unfolding ChargeSays
says-19 t h q e = record { outside = e; number = refl }

pub says-charged : (t h : List ℕ) (q : ℕ) (e : Result sheet.Answer Refusal) (a b : Option Charge) → quantum_outside q ≡ false → VerdictSays t h e
    → a ≡ by_quantum q t h → b ≡ by_task t h → ChargeSays t h q (Ok (record { exact = e; quantum = a; task = b }))
unfolding ChargeSays
says-charged t h q e a b inside exact quantum task = record { inside = inside; exact = exact; quantum = quantum; task = task }
