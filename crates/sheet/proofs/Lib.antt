pub mod Printed
pub mod Whole
pub mod Example
