-- A stretch without arrivals, piece by piece.
-- a step without arrivals
pub mod Quietly
-- many of them
pub mod Stretches
-- what the one that runs leaves owed
pub mod Paid
-- the first deadline of a task owed work
pub mod Firsts
-- ticks of one row alone
pub mod Slides
-- a piece after its first tick, and whole
pub mod Pieces
-- a refusal, or none, and its number
pub mod Numbers
-- one piece after the other
pub mod Turns
-- what meets the promises, and that they allow one answer
pub mod Promise
-- a stretch as offers
pub mod Offers
