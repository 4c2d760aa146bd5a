-- A walk over the segments, as the code goes.
pub mod Lent
pub mod Carried
pub mod Steps
pub mod Turns
