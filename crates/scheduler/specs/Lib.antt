-- Contents, in 01's order. What a reader must believe of the scheduler (01, "One tick of the scheduler"; refusals 6 to 11):
-- a run, by place
pub mod Runs
-- what a fresh run is
pub mod Start
-- one tick: arrivals, who runs, the clock, who is late
pub mod Tick
-- the books balance
pub mod Books
-- refusal 6, clause by clause
pub mod Bounds
-- refusals 6 to 11 and what a step answers
pub mod Steps
-- what `fresh` and `step` promise, and the figures of an answer
pub mod Promise
-- the tick rule said of a step's answer
pub mod Rule
-- every run reached from a fresh one is in bounds
pub mod Reached
-- scans over places, which the definitions share
pub mod Scans
-- what no promise cites
pub mod Inside
