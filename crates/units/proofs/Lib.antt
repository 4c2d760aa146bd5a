-- Finer ticks from row to answer, then another order likewise.
pub mod Finer
pub mod Loads
pub mod Counts
pub mod FinerTicks
pub mod FinerResponses
pub mod Orders
pub mod ShuffledLoads
pub mod ShuffledCounts
pub mod OtherOrder
pub mod OwnResponse
pub mod Instances
pub mod ResponseInstances
