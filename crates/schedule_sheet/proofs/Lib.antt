-- Laws of schedule files that are judged.
pub mod Printed
pub mod Whole
pub mod SpansRead
