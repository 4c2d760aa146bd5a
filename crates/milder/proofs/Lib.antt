-- What a milder guard costs; a table with one handler's cost cut; the theorem; instances of it.
pub mod Milder
pub mod Cut
pub mod MilderKeeps
pub mod Instances
