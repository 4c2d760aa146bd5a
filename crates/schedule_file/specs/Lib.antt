-- Contents.
-- what a file of segments says: its rows, by how they are written as text
pub mod File
-- what its rows come to as segments, and the promise of the reader
pub mod Schedule
-- the reader's own steps and the rows on its way: no promise cites them
pub mod Inside
