-- Contents.
-- what a file says: its rows, by how they are written as text
pub mod File
-- what its rows come to as the two lists of a table, and the promise of the reader
pub mod Table
-- the refusal of the table that it says
pub mod Refusals
-- the reader's own steps and the table on its way: no promise cites them
pub mod Inside
