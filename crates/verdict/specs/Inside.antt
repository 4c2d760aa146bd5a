-- What no promise cites: how the code goes about its work.
-- how far a search goes, and what it finds
pub mod Search
-- the idle point looked for along all arrivals
pub mod Drain
