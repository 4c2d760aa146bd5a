use mathlib.Core.Path.{ap, sym, ◌∙◌}
use native.Mathlib.Nat.{mul_comm, add_assoc}
use native.Mathlib.Omega.{arith}
use Prim.Native.Nat.{ℕ}
use lib.Arith.{digits_lt}
use lib.ListN.{get_or}
use Rattle.std.proofs.lemmas.Grind.{take-set_at}
use Rattle.columns.proofs.Filled.{listed-turn}
use Rattle.columns.proofs.Order.{placed}
use Rattle.columns.specs.Order.{tabled}
use Rattle.columns.proofs.put_row.Goals as goal

pub loop-column-preserved : goal.loop-column-preserved
loop-column-preserved c =
    let inside = digits_lt c.requires.2 c.loop-column-test.true in
    let next = add_assoc _ c.loop-column.column 1 in
    let put = take-set_at c.loop-column.out _ _ _ (sym next) (omega (arith, c.requires.1, inside, mul_comm c.args.w c.args.n)) in
    let place = sym (placed c.args.w c.args.n c.args.row c.loop-column.column c.loop-column-test.true) in
    let number = ap (λ (k : ℕ). get_or c.args.numbers.now k 0) place in
    put ∙ listed-turn _ _ _ _ number c.loop-column.invariant ∙ ap (tabled _) next
