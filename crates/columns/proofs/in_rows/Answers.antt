use mathlib.Core.Path.{◌≡◌, refl, ap, sym, ◌∙◌}
use native.Mathlib.Nat.{mul_comm}
use native.Mathlib.Omega.{arith}
use Prim.Native.Nat.{ℕ, ◌*◌, ◌/◌}
use lib.ListN.{length, take}
use Rattle.std.proofs.Common.{length-take-le}
use Rattle.std.proofs.lemmas.List.{length-replicate, take_all}
use Rattle.columns.proofs.Filled.{shape, listed-end}
use Rattle.columns.specs.Order.{tabled_from, tabled}
use Rattle.columns.proofs.in_rows.Goals as goal

pub loop-row-init : goal.loop-row-init
unfolding tabled_from
loop-row-init g c =
    let none : 0 * c.width-w.result ≡ 0 = omega arith in
    (length-replicate g.row.N 0, rw none refl)

pub put_row-requires : goal.put_row-requires
put_row-requires g c =
    let is = shape c.args.kind c.args.numbers.now c.width-w.result c.requires.0 c.width-w.ensures in
    (is.numbers, omega (arith, is.numbers, is.most, c.requires.1, c.loop-row.invariant.0), c.loop-row-test.true, c.loop-row.invariant.1)

pub loop-row-preserved : goal.loop-row-preserved
loop-row-preserved g c = (c.put_row.ensures.0 ∙ c.loop-row.invariant.0, c.put_row.ensures.1)

pub returns : goal.returns
returns g c =
    let is = shape c.args.kind c.args.numbers.now c.width-w.result c.requires.0 c.width-w.ensures in
    let all : c.loop-row.row ≡ length c.args.numbers.now / c.width-w.result = omega arith in
    let end = ap (λ (r : ℕ). r * c.width-w.result) all ∙ mul_comm _ c.width-w.result ∙ sym is.numbers in
    let long = length-take-le (length c.args.numbers.now) c.loop-row.out (omega (arith, is.most, c.requires.1, c.loop-row.invariant.0)) in
    c.of.ensures
    ∙ take_all g.row.N (take (length c.args.numbers.now) c.loop-row.out) (omega (arith, is.most, c.requires.1, long))
    ∙ ap (λ (k : ℕ). take k c.loop-row.out) (sym end)
    ∙ c.loop-row.invariant.1
    ∙ ap (tabled _) end
    ∙ listed-end c.args.kind c.args.numbers.now c.width-w.result _ c.requires.0 is
