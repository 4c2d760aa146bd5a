-- Contents. What a reader must believe of a schedule from elsewhere (02, M-110):
-- schedules, and what they give to each row
pub mod Given
-- the rules, tick by tick: accepted, and the first tick at which a rule is broken
pub mod Rules
-- a schedule as segments
pub mod Segments
-- what the public call answers
pub mod Promise
-- and that no other answer is allowed
pub mod Unique
-- what an accepted schedule says of lengths
pub mod Passing
-- schedules judged by hand: one list, one statement
pub mod Cases
-- what no promise cites
pub mod Inside
