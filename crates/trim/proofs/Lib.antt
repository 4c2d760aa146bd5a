-- Laws of one cost changed, of the search, and of the answer.
pub mod Copies
pub mod Repriced
pub mod Lowered
pub mod Halving
pub mod Answers
pub mod Cases
