-- Contents. What a reader must believe of trimming a table (02, M-112):
-- one cost of a table changed, all else kept
pub mod Costs
-- what the public call answers
pub mod Promise
-- and that no other answer is allowed
pub mod Unique
-- tables trimmed by hand: one list, one statement
pub mod Cases
-- what no promise cites
pub mod Inside
