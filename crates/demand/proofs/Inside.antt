-- Laws of what the code goes by: lent lists, places, sizes, and what stands in specs/Inside.
pub mod Slices
pub mod Places
pub mod Sizes
pub mod Events
pub mod Arrivals
