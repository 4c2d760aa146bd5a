use native.Mathlib.Omega.{arith}
use Rattle.demand.specs.Rows.{handlers_of}
use Rattle.demand.proofs.Demands.{handled-le}
use Rattle.demand.proofs.Inside.Sizes.{fair-positive}
use Rattle.demand.proofs.Wholes.{all_read, wholes-read}
use Rattle.demand.proofs.handled.Goals as goal

pub returns-then-own-work : goal.returns-then-own-work
returns-then-own-work c =
    let hs = handlers_of c.args.handlers.now in
    all_read hs (fair-positive hs c.requires.0.rows) _ c.args.l c.in-Some.ensures c.if-l-own.false _ c.called-work.ensures c.if-own-work.true

pub overflow_add-result : goal.overflow_add-result
overflow_add-result c =
    let hs = handlers_of c.args.handlers.now in
    let sum = wholes-read hs (fair-positive hs c.requires.0.rows) _ c.args.l c.in-Some.ensures c.if-l-own.false _ c.called-work.ensures c.if-own-work.false in
    omega (arith, sum, c.walked-2.ensures, handled-le hs c.args.l, c.requires.0.ticks)

pub returns : goal.returns
returns c =
    let hs = handlers_of c.args.handlers.now in
    let sum = wholes-read hs (fair-positive hs c.requires.0.rows) _ c.args.l c.in-Some.ensures c.if-l-own.false _ c.called-work.ensures c.if-own-work.false in
    omega (arith, sum, c.walked-2.ensures)
