use mathlib.Core.Path.{ap, ◌∙◌}
use native.Mathlib.Nat.{div-le_self}
use native.Mathlib.Omega.{arith}
use Prim.Native.Nat.{ℕ, ◌+◌, ◌-◌, ◌*◌}
use Rattle.demand.specs.Rows.{row_of}
use Rattle.segments.proofs.Looks.Figures.{lapse-most, work-most, last-read}
use Rattle.segments.proofs.look.light_lapse.Goals as goal

pub overflow_add-saturating_sub : goal.overflow_add-saturating_sub
overflow_add-saturating_sub c =
    omega (
      arith,
      div-le_self c.saturating_sub.result
          (c.args.row.period - c.args.row.cost),
      c.saturating_sub.ensures,
      c.requires.0.start,
    )

pub overflow_mul-row : goal.overflow_mul-row
overflow_mul-row c =
    let r = row_of c.args.row in
    let last =
    last-read 0 _ _ _ _ c.requires.0.fair.period.least _ _ _ c.saturating_sub.ensures c.requires.2
    c.max-last.ensures in
    omega (arith, work-most r _ _ c.requires.0 c.max-last.result (omega (arith, last, lapse-most r _ _ c.requires.0)))

pub overflow_add-result : goal.overflow_add-result
overflow_add-result c =
    let r = row_of c.args.row in
    let last =
    last-read 0 _ _ _ _ c.requires.0.fair.period.least _ _ _ c.saturating_sub.ensures c.requires.2
    c.max-last.ensures in
    omega (
      arith,
      c.saturating_sub-2.ensures,
      c.requires.0.start,
      work-most r _ _ c.requires.0 c.max-last.result (omega (arith, last, lapse-most r _ _ c.requires.0)),
    )

pub returns : goal.returns
returns c =
    let last =
    last-read 0 _ _ _ _ c.requires.0.fair.period.least _ _ _ c.saturating_sub.ensures c.requires.2
    c.max-last.ensures in
    ap (λ (n : ℕ). c.args.a + n) c.saturating_sub-2.ensures ∙ ap (λ (n : ℕ). c.args.a + (c.args.row.cost * n - c.args.given)) last
