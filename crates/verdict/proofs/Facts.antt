-- The facts that end the search: a drain point, shares of a common multiple, and what follows for H.
pub mod Drain
pub mod Shares
pub mod Common
pub mod Ends
