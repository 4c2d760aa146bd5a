-- Laws of schedules from elsewhere.
-- accepted is that no rule is broken
pub mod Accepting
-- an accepted schedule meets every deadline of a table
pub mod Timely
-- and so no length up to its span fails; with a sheet's no it does not contradict
pub mod Passing
pub mod Contradict
-- a schedule judged by pieces is judged as tick by tick
pub mod Pieces
pub mod Says
-- what the code works out, in its own form
pub mod Looks
pub mod Walks
-- the call: its refusals, its answers, and the schedules judged by hand
pub mod Refusals
pub mod Answers
pub mod Cases
