-- Contents. What a reader must believe of a list of charged tables (02, M-113):
-- the figures of a table file
pub mod Files
-- the line of a table
pub mod Line
-- how many lines fit, miss or say nothing
pub mod Counts
