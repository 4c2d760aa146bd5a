-- Runs and steps by place: the laws that the code meets.
pub mod Answers
pub mod Clauses
pub mod Earliest
pub mod Goes
pub mod OnePass
pub mod RowPlaces
pub mod Scan
pub mod Tables
pub mod Keys
pub mod Known
pub mod Ticks
