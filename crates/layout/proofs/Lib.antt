pub mod Places
pub mod Inside
pub mod File
pub mod Table
pub mod Instances
