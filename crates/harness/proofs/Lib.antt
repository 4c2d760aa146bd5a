-- what a call leaves in the lent arrays, from what it computed
pub mod Laid
-- the steps of a benchmark, counted
pub mod Counted
-- a refused step and ticks in numbers
pub mod Examples
