use Rattle.std.proofs.Common.{◌≡◌, ◌≤◌, length, take}
use Rattle.guard_file.specs.File.{file_most}
use Rattle.guard_file.specs.Inside.Building.{sheet_of, read_over}
use Rattle.guard_file.proofs.reader.read.Given as goal

abbrev pub invariant-loop-b : goal.invariant-loop-b
invariant-loop-b l =
    let here = read_over (take l.b-index l.bytes) in
    (length l.bytes ≤ file_most) × (l.st ≡ here.st) × (l.row.values ≡ here.values) × (l.sheet ≡ sheet_of here.guards)
