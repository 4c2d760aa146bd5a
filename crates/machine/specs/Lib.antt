-- Contents. The machine, without code: what a reader must believe of schedules (01, "One tick of the scheduler"; 00, demand 3).
-- rows at work: what they are owed, their arrivals and their deadlines
pub mod Live
-- the synchronous arrivals, and any schedule that puts handlers first and meets every deadline
pub mod Schedules
-- our own machine: its state, one tick of it, and its synchronous run
pub mod Machine
-- when a run is on time, and when no schedule can be
pub mod Lateness
-- rows at work as a run holds them
pub mod Places
-- what no promise cites
pub mod Inside
