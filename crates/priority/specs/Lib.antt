-- Contents. What a reader must believe of fixed priorities (02, M-103):
-- what a task and those above it ask of a length
pub mod Asked
-- the least length with room for it, for each task
pub mod Responses
-- what the public call answers
pub mod Answers
-- tables worked by hand: one list, one statement
pub mod Cases
-- what no promise cites
pub mod Inside
