-- What no promise cites: how the code goes about its work.
-- the order of priorities as numbers
pub mod Ranks
-- the climb from below, and what the search has found so far
pub mod Climb
