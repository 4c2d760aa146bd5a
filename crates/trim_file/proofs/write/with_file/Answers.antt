use Rattle.std.proofs.Common.{◌∙◌, ◌+◌, ℕ, List, length, arith, ap}
use Rattle.trim_file.specs.Inside.{added}
use Rattle.trim_file.specs.Printed.{cost_lines}
use Rattle.trim_file.proofs.Written.{number-text, lines-written, file-is}
use Rattle.trim_file.proofs.write.with_file.Goals as goal

pub overflow_add-behind : goal.overflow_add-behind
overflow_add-behind c =
    let was = ap length (c.as_bytes.ensures ∙ number-text c.args.old _ _ _ c.from.ensures c.blank.ensures c.number-was.ensures) in
    omega (arith, was, c.cost_from-at.ensures, c.requires.within, c.requires.small)

pub replace-sheet-requires : goal.replace-sheet-requires
replace-sheet-requires c =
    let was = ap length (c.as_bytes.ensures ∙ number-text c.args.old _ _ _ c.from.ensures c.blank.ensures c.number-was.ensures) in
    (omega arith, omega (arith, was, c.cost_from-at.ensures, c.requires.within))

pub returns : goal.returns
returns c =
    let x = c.args in
    let was = ap length (c.as_bytes.ensures ∙ number-text x.old _ _ _ c.from.ensures c.blank.ensures c.number-was.ensures) in
    let told = c.of_cost-told.ensures ∙ ap (λ (n : ℕ). cost_lines x.row 0 n c.from-3.result) c.from-2.ensures
    ∙ ap (λ (n : ℕ). cost_lines x.row 0 x.old n) c.from-3.ensures in
    let add = c.add-lines.ensures ∙ ap (λ (bs : List ℕ). added c.bare.result bs) c.as_bytes-2.ensures in
    let lines = lines-written x.row 0 x.old x.new _ _ _ told c.bare.ensures add in
    file-is x.input.now x.row x.old x.new c.requires c.cost_from-at.result _ c.add-lines.result c.replace-sheet.result
    c.cost_from-at.ensures (ap (λ (n : ℕ). c.cost_from-at.result + n) was) lines c.replace-sheet.ensures
