-- What no promise cites: how the code goes about it.
-- what private functions count on
pub mod Counted
-- refusal 6 in one pass over the tasks and one over the handlers
pub mod OnePass
-- the keys by which tasks are chosen
pub mod Keys
