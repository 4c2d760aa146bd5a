-- Laws of files of segments.
pub mod Inside
pub mod File
pub mod Read
pub mod Instances
