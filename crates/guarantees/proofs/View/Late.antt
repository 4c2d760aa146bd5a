-- A run's late row is named exactly where its state is not on time.
use mathlib.Core.Bool.{Bool, true, false, ◌&&◌, false≢true}
use mathlib.Core.List.{List}
use mathlib.Core.Path.{◌≡◌, refl, sym, ap, ◌∙◌}
use native.Mathlib.Omega.{arith}
use borrow.Author.Tests.{ltb-true, ltb-false, eqb-true}
use Prim.Native.Nat.{ℕ, ◌<◌}
use lib.Dec.{ltb, eqb}
use lib.ListN.{get_or}
use Rattle.std.specs.Prelude.{None, Some}
use Rattle.machine.specs.Live.{OnTime}
use Rattle.machine.specs.Inside.Listed.{Listed}
use Rattle.scheduler.specs.Reached.{WellMade}
use Rattle.scheduler.specs.Runs.{task_rows}
use Rattle.scheduler.specs.Scans.{at}
use Rattle.scheduler.specs.Tick.{is_late, late_row, is_task}
use Rattle.guarantees.specs.View.{part, view_of}
use Rattle.scheduler.specs.declared.Run.{Run}
use Rattle.machine.proofs.FlatArrive.{on-time-flat}
use Rattle.machine.proofs.FlatFacts.{flat-on-time}
use Rattle.scheduler.proofs.Reached.Keeps.{nobody-late}
use Rattle.guarantees.proofs.View.Parts.{front_at}
use Rattle.scheduler.proofs.Steps.Scan.{first-none, Found, find}
use Rattle.scheduler.proofs.Steps.Scan.Found.{nowhere, first}
use Rattle.guarantees.proofs.View.Rows.{rows_fit, task-rows}
use Rattle.guarantees.proofs.View.Arrives.{tasks-due}

both : (a b : Bool) → (a && b) ≡ true → (a ≡ true) × (b ≡ true)
both true b e = (refl, e)
both false b e = absurd (false≢true e)

-- A row is named: it is owed work at its deadline.
pub record LateTask (clock : ℕ) (due : ℕ → ℕ) (owed : List ℕ) (n : ℕ) : Type 0 where
  pub row : ℕ
  pub within : row < n
  pub work : 0 < get_or owed row 0
  pub now : due row ≡ clock

pub named-late : (clock : ℕ) (due : ℕ → ℕ) (owed : List ℕ) (n : ℕ) → is_task (late_row clock due owed n) ≡ true → LateTask clock due owed n
unfolding late_row
named-late clock due owed n e = go (find (is_late clock due owed) n)
  where
    go : Found (is_late clock due owed) n → LateTask clock due owed n
    go (nowhere none) = absurd (false≢true (sym (ap is_task (first-none (is_late clock due owed) Some n None none)) ∙ e))
    go (first i l q none) =
        let tests = both (ltb 0 (get_or owed i 0)) (eqb (due i) clock) q in
        record { row = i; within = l; work = ltb-true _ _ tests.0; now = eqb-true _ _ tests.1 }

module _ (r : Run) (s : WellMade r) (t : ℕ) where
  abbrev n : ℕ
  n = r.task_count

  fits : Listed (task_rows r) (part 0 n r.next) (part 0 n r.due) (part 0 n r.owed)
  fits = rows_fit (task-rows r s) r.next (part 0 n r.due) r.owed s.shaped.next-long (tasks-due r s) s.shaped.owed-long

  pub named-not-on-time : is_task (late_row t (at r.due) r.owed n) ≡ true → ¬ OnTime t (view_of r).tasks
  named-not-on-time e on =
      let x = named-late t (at r.due) r.owed n e in
      let none = on-time-flat t (task_rows r) (part 0 n r.next) (part 0 n r.due) (part 0 n r.owed) fits on x.row (omega (arith, x.within, (task-rows r s).count)) (front_at n r.due x.row x.within ∙ x.now) in
      omega (arith, x.work, front_at n r.owed x.row x.within)

  pub nobody-on-time : is_task (late_row t (at r.due) r.owed n) ≡ false → OnTime t (view_of r).tasks
  nobody-on-time e =
      flat-on-time t (task_rows r) (part 0 n r.next) (part 0 n r.due) (part 0 n r.owed)
      (λ j l now.
      let below : j < n = omega (arith, (task-rows r s).count) in
      front_at n r.owed j below ∙ none j below (sym (front_at n r.due j below) ∙ now) (ltb 0 (get_or r.owed j 0)) refl)
    where
      none : (j : ℕ) → j < n → get_or r.due j 0 ≡ t → (b : Bool) → ltb 0 (get_or r.owed j 0) ≡ b → get_or r.owed j 0 ≡ 0
      none j l now true q = absurd (nobody-late t (at r.due) r.owed n j e l (ltb-true _ _ q) now)
      none j l now false q = omega (arith, ltb-false 0 (get_or r.owed j 0) q)
