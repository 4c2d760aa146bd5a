use mathlib.Core.Path.{sym, ◌∙◌}
use native.Mathlib.Omega.{arith}
use native.Mathlib.Nat.{div-le_self}
use Prim.Native.Nat.{◌+◌, ◌-◌, ◌*◌}
use Rattle.demand.proofs.Divide.{div_ceil-ceil}
use Rattle.demand.specs.Rows.{tasks_of, handlers_of}
use Rattle.demand.proofs.Inside.Sizes.{fair-positive}
use Rattle.charges.specs.Inside.{way_cost}
use Rattle.charges.proofs.Totals.{periods-total, rest-total}
use Rattle.charges.proofs.WholePeriods.{common-found, load_split}
use Rattle.charges.proofs.ways.load.Goals as goal

pub summed-sums-requires : goal.summed-sums-requires
summed-sums-requires c =
    let found = common-found _ _ c.requires.1 (sym c.unwrap-h.ensures ∙ c.of_rows.ensures) in
    (c.requires.0, record { rows = c.requires.1.rows; count = c.requires.1.count; ticks = found.most }, c.requires.2)

pub overflow_mul-result : goal.overflow_mul-result
overflow_mul-result c =
    let hs = handlers_of c.args.handlers.now in
    omega (arith, c.summed-sums.ensures.periods, periods-total c.args.way hs c.requires.0 c.requires.2 (tasks_of c.args.tasks.now) c.requires.1.rows c.requires.1.count)

pub overflow_mul-sums : goal.overflow_mul-sums
overflow_mul-sums c =
    let hs = handlers_of c.args.handlers.now in
    let h = (common-found _ _ c.requires.1 (sym c.unwrap-h.ensures ∙ c.of_rows.ensures)).most in
    omega (arith, h, c.summed-sums.ensures.rest, rest-total c.args.way hs c.requires.0 c.requires.2 (tasks_of c.args.tasks.now) c.requires.1.rows c.requires.1.count c.unwrap-h.result)

pub div_ceil-requires : goal.div_ceil-requires
div_ceil-requires c = (common-found _ _ c.requires.1 (sym c.unwrap-h.ensures ∙ c.of_rows.ensures)).some

pub overflow_add-result : goal.overflow_add-result
overflow_add-result c =
    let hs = handlers_of c.args.handlers.now in
    let h = c.unwrap-h.result in
    let found = common-found _ _ c.requires.1 (sym c.unwrap-h.ensures ∙ c.of_rows.ensures) in
    let rest = rest-total c.args.way hs c.requires.0 c.requires.2 (tasks_of c.args.tasks.now) c.requires.1.rows c.requires.1.count h in
    let periods = periods-total c.args.way hs c.requires.0 c.requires.2 (tasks_of c.args.tasks.now) c.requires.1.rows c.requires.1.count in
    let up = c.div_ceil.ensures ∙ div_ceil-ceil (1000000 * c.summed-sums.result.rest) h found.some in
    let less = div-le_self (1000000 * c.summed-sums.result.rest + (h - 1)) h in
    omega (arith, found.most, up, less, c.summed-sums.ensures.rest, c.summed-sums.ensures.periods, rest, periods)

pub returns : goal.returns
returns c =
    let g = way_cost c.args.way (handlers_of c.args.handlers.now) in
    let found = common-found _ _ c.requires.1 (sym c.unwrap-h.ensures ∙ c.of_rows.ensures) in
    rw (c.div_ceil.ensures ∙ div_ceil-ceil _ _ found.some)
    (load_split g _ _ found.is (fair-positive (tasks_of c.args.tasks.now) c.requires.1.rows) _ _ c.summed-sums.ensures.periods c.summed-sums.ensures.rest)
