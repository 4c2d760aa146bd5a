-- What no promise cites: how the reader goes from byte to byte, and how the table grows.
pub mod Steps
pub mod Building
