use Rattle.std.proofs.Common.{◌≡◌, ◌+◌, length, take}
use Rattle.charge_lines.specs.Line.{doubled}
use Rattle.page.specs.Laid.{laid}
use Rattle.charge_lines.proofs.names.doubled.Given as goal

abbrev pub invariant-loop-b : goal.invariant-loop-b
invariant-loop-b l =
    let so_far = doubled (take l.b-index l.name) in
    (l.to ≡ l.at + length so_far) × (l.page ≡ laid l.initial.page l.at so_far)
