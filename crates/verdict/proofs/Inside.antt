-- Laws of what stands in specs/Inside.
pub mod Search
pub mod Drain
