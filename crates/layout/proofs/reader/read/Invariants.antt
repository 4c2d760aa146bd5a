use Rattle.std.proofs.Common.{◌≡◌, ◌≤◌, length, take}
use Rattle.layout.specs.Inside.Building.{read_over}
use Rattle.layout.specs.Inside.Steps.{columns_of}
use Rattle.layout.specs.File.{file_most}
use Rattle.layout.specs.Table.{table_of}
use Rattle.layout.proofs.reader.read.Given as goal

abbrev pub invariant-loop-b : goal.invariant-loop-b
invariant-loop-b l =
    let here = read_over l.columns (take l.b-index l.bytes) in
    (length l.bytes ≤ file_most) × (l.st ≡ here.st) × (l.t ≡ table_of here.rows) × (l.columns ≡ columns_of l.bytes)
