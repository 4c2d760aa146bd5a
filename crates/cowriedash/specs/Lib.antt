pub mod Numbers
pub mod ByPriority
pub mod GuardRows
pub mod Trimmed
pub mod Charged
pub mod Judged
