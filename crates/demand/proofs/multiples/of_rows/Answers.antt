use mathlib.Core.Path.{refl, ◌∙◌}
use native.Mathlib.Omega.{arith}
use Rattle.demand.specs.Refusals.{FairRow}
use Rattle.demand.proofs.Inside.Slices.{each-head}
use Rattle.euclid.proofs.Divisors.{gcd-positive, lcm-positive}
use Rattle.demand.proofs.Periods.{lcm-short, lcm-over, lcm-head, lcm-read, lcm-fits}
use Rattle.demand.proofs.multiples.of_rows.Goals as goal

pub nonzero_div-m : goal.nonzero_div-m
nonzero_div-m c = omega (arith, c.gcd.ensures, gcd-positive _ c.head-row.result.period c.loop-rest.invariant.some)

pub overflow_mul-m : goal.overflow_mul-m
overflow_mul-m c =
    let turn = c.loop-rest in
    let fair = (each-head c.args.kind turn.rest.now _ c.head-row.ensures _ c.width-own.ensures FairRow turn.invariant.rows).0 in
    omega (arith, lcm-fits turn.m c.gcd.result _ turn.invariant.most fair.period.most)

pub returns-then-m-gt-TICKS_MOST : goal.returns-then-m-gt-TICKS_MOST
returns-then-m-gt-TICKS_MOST c =
    let turn = c.loop-rest in
    lcm-over c.args.kind turn.rest.now _ c.head-row.ensures _ turn.invariant.some turn.invariant.rows (omega (arith, c.if-m-gt-TICKS_MOST.true, lcm-read _ _ _ c.gcd.ensures))
    ∙ turn.invariant.same

pub loop-rest-preserved : goal.loop-rest-preserved
loop-rest-preserved c =
    let turn = c.loop-rest in
    let wide = c.width-own.ensures in
    let fair = each-head c.args.kind turn.rest.now _ c.head-row.ensures _ wide FairRow turn.invariant.rows in
    let multiple = lcm-read _ _ _ c.gcd.ensures in
    record {
      rows = fair.1;
      some = omega (arith, multiple, lcm-positive _ _ turn.invariant.some fair.0.period.least);
      most = c.if-m-gt-TICKS_MOST.false;
      same = lcm-head c.args.kind turn.rest.now _ c.head-row.ensures _ wide turn.m _ _ multiple refl ∙ turn.invariant.same;
    }

pub returns : goal.returns
returns c =
    let turn = c.loop-rest in
    lcm-short c.args.kind turn.rest.now (omega (arith, c.loop-rest-test.false, c.width-own.ensures)) _ turn.invariant.most ∙ turn.invariant.same
