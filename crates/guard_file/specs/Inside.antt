-- What no promise cites: how the reader goes from byte to byte, what it keeps, and how its page is put together.
pub mod Steps
pub mod Handed
pub mod Building
pub mod Pages
