-- Contents.
-- what a file of guards says: its rows, by how they are written as text
pub mod File
-- what is printed of it: handler rows or a refusal, from bytes to bytes
pub mod Page
-- the reader's own steps and what it keeps on its way: no promise cites them
pub mod Inside
