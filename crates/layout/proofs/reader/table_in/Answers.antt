use Rattle.layout.proofs.Table.{table-in-told, table-in-stands}
use Rattle.layout.proofs.reader.table_in.Goals as goal

pub returns-in-Some : goal.returns-in-Some
returns-in-Some c = table-in-told _ _ _ c.read-read.ensures (rw c.in-Some.is at c.misplaced.ensures)

pub returns : goal.returns
returns c = table-in-stands _ _ c.read-read.ensures (rw c.in_default.is at c.misplaced.ensures)
