-- What no promise cites: how the code goes about its work.
-- how great totals get
pub mod Sizes
-- the rows of a table as events
pub mod Events
-- f along the arrivals of handlers
pub mod Arrivals
-- a list in fixed memory
pub mod Padded
