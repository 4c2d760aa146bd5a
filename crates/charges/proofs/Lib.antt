-- Laws of the three ways of charging.
pub mod Bounded
pub mod Growth
pub mod WholePeriods
pub mod Totals
pub mod Answers
pub mod Once
pub mod Cases
