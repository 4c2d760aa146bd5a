-- The tick as the code makes it, step by step.
use mathlib.Core.Bool.{Bool}
use mathlib.Core.List.{List}
use mathlib.Core.Path.{◌≡◌, ◌∙◌}
use Prim.Native.Nat.{ℕ, ◌+◌}
use lib.ListN.{length}
use Rattle.std.specs.Prelude.{Option}
use Rattle.scheduler.specs.Inside.Keys.{key_of, keys_on}
use Rattle.scheduler.specs.Runs.{row_in, row_count}
use Rattle.scheduler.specs.Scans.{at}
use Rattle.scheduler.specs.Tick.{next_arrived, due_arrived, owed_arrived, goes_to, paid, late_row, is_task, closed, key_with, ticked_by}
use Rattle.scheduler.specs.declared.Ran.{Ran}
use Rattle.scheduler.specs.declared.Run.{Run}
use Rattle.scheduler.specs.declared.tick.Key.{Key}
use Rattle.scheduler.proofs.Steps.Keys.{keys-same}

-- Each of its results is what the last ones make it.
pub tick-made : (key : Key) (r : Run) (ws next due owed owed' : List ℕ) (ran : Ran) (late : Option ℕ) (over : Bool) → length ws ≡ row_count r
    → next ≡ next_arrived r.clock (row_in r) ws (length ws) r.next
    → due ≡ due_arrived r.clock (row_in r) ws r.task_count r.due
    → owed ≡ owed_arrived ws (length ws) r.owed
    → ran ≡ goes_to (keys_on key r.tasks due) owed r.task_count r.handler_count
    → owed' ≡ paid owed r.task_count ran
    → late ≡ late_row (r.clock + 1) (at due) owed' r.task_count
    → over ≡ is_task late
    → closed r next due owed' ran over late ≡ ticked_by (key_of key) r ws
unfolding ticked_by
tick-made key r ws next due owed owed' ran late over count en ed eo er ep el ev =
    let goes : ran ≡ goes_to (key_with (key_of key) r next due owed) owed r.task_count r.handler_count = er ∙ keys-same key r next due owed in
    rw (ev, ← count, ← en, ← ed, ← eo, ← goes, ← ep, ← el)
