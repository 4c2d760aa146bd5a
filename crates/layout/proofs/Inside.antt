pub mod Standing
pub mod Room
pub mod Builds
pub mod Texts
