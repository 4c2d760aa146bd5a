pub mod Scan
pub mod Digits
pub mod Found
pub mod Rewritten
pub mod Changed
