-- A run seen as a state of the machine, and its steps as the machine's ticks.
pub mod Parts
pub mod Rows
pub mod Arrives
pub mod Serves
pub mod Late
pub mod Fresh
pub mod Steps
