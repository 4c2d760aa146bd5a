-- What no promise cites: how the code goes about it.
-- a piece after its first tick
pub mod Alone
