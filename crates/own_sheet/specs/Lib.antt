-- Contents.
-- the lines of our own segments
pub mod Lines
