use mathlib.Core.Path.{ap, ◌∙◌}
use native.Mathlib.Omega.{arith}
use Prim.Native.Nat.{ℕ, ◌+◌}
use Rattle.demand.specs.Rows.{row_of}
use Rattle.segments.proofs.Looks.Figures.{calls-most, work-most, periods-most, heavy-short, heavy-lasts}
use Rattle.segments.proofs.look.heavy_lapse.Goals as goal

pub overflow_mul-work : goal.overflow_mul-work
overflow_mul-work c =
    let r = row_of c.args.row in
    omega (arith, work-most r _ _ c.requires.0 c.args.calls (omega (arith, c.requires.2, calls-most r _ _ c.requires.0)))

pub overflow_add-a : goal.overflow_add-a
overflow_add-a c =
    let r = row_of c.args.row in
    omega (arith, c.requires.0.start, work-most r _ _ c.requires.0 c.args.calls (omega (arith, c.requires.2, calls-most r _ _ c.requires.0)))

pub overflow_mul-calls : goal.overflow_mul-calls
overflow_mul-calls c =
    let r = row_of c.args.row in
    omega (arith, periods-most r _ _ c.requires.0 c.args.calls (omega (arith, c.requires.2, calls-most r _ _ c.requires.0)))

pub overflow_add-calls : goal.overflow_add-calls
overflow_add-calls c =
    let r = row_of c.args.row in
    omega (
      arith,
      c.requires.0.given,
      periods-most r _ _ c.requires.0 c.args.calls
          (omega (arith, c.requires.2, calls-most r _ _ c.requires.0)),
    )

pub overflow_add-result : goal.overflow_add-result
overflow_add-result c =
    let r = row_of c.args.row in
    omega (
      arith,
      c.saturating_sub.ensures,
      c.requires.0.start,
      work-most r _ _ c.requires.0 c.args.calls (omega (arith, c.requires.2, calls-most r _ _ c.requires.0)),
    )

pub returns-then-a-work : goal.returns-then-a-work
returns-then-a-work c =
    ap (λ (n : ℕ). c.args.a + n) c.saturating_sub.ensures
    ∙ heavy-short _ _ _ _ _ c.requires.0.fair.period.least c.args.calls c.requires.2 c.if-a-work.true

pub returns-else-a-work : goal.returns-else-a-work
returns-else-a-work c =
    heavy-lasts _ _ _ _ _ c.requires.0.fair.period.least c.args.calls c.requires.2 c.if-a-work.false
