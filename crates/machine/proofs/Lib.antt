-- The machine over rows at work: what it keeps, when it is late, and what no schedule can do.
pub mod Ordered
pub mod Room
pub mod Invariant
pub mod FullArrivals
pub mod Beats
pub mod No
pub mod Least
pub mod Choice
pub mod Sync
pub mod Flat
pub mod FlatArrive
pub mod FlatFacts
pub mod Priority
pub mod Lateness
pub mod Examples
