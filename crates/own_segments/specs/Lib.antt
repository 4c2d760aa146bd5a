-- Contents. What a reader must believe of our own scheduler's segments (02, M-110):
-- to whom our scheduler's synchronous run gives each tick
pub mod Own
-- the segments of a schedule, tick by tick
pub mod Drawn
-- what the public call answers
pub mod Promise
-- and that no other answer is allowed
pub mod Unique
-- that they break no rule after a yes, and after a no first at the interval that the sheet names
pub mod Fine
-- what no promise cites
pub mod Inside
