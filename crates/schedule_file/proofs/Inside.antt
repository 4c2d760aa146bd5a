-- How the reader goes.
pub mod Standing
pub mod Texts
pub mod Builds
