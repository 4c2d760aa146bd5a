pub mod Queue
pub mod Settling
pub mod Taking
pub mod Adding
