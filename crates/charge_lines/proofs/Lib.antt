-- Laws of lines and of counts.
pub mod Written
pub mod Quoting
pub mod Tally
pub mod Charged
