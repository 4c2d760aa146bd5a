-- What is kept, then where the reader stands, then how it reads through a text.
pub mod Builds
pub mod Fields
pub mod Standing
pub mod Keeps
pub mod Numbers
pub mod Texts
