-- Contents.
-- counts of bytes that were read
pub mod Counts
