use mathlib.Core.Path.{sym, ap}
use Rattle.scheduler.specs.declared.Run.{Run}
use Rattle.harness.proofs.Laid.{late-rows, refused-as}
use Rattle.harness.proofs.harness_step_by_priority.Goals as goal

pub lay-requires : goal.lay-requires
lay-requires c =
    let run = sym c.run_in-run.ensures in (
      late-rows _ _ _ _ c.step_by_priority.ensures,
      refused-as _ _ _ _ _ _ _ c.step_by_priority.ensures (ap (λ (x : Run). x.next) run) (ap (λ (x : Run). x.due) run) (ap (λ (x : Run). x.owed) run),
    )

pub returns : goal.returns
returns c = record {
  stepped = c.step_by_priority.result;
  says = rw (← c.run_in-run.ensures) c.step_by_priority.ensures;
  next-laid = c.lay.ensures.0;
  due-laid = c.lay.ensures.1;
  owed-laid = c.lay.ensures.2;
  figures-laid = c.lay.ensures.3;
}
