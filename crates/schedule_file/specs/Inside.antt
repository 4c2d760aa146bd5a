-- What no promise cites: how the reader goes from byte to byte, and what it keeps.
pub mod Steps
pub mod Building
pub mod Built
