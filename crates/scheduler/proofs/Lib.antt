pub mod Steps
pub mod Reached
pub mod Books
pub mod Promise
pub mod Rule
