-- Laws of the answer, and the worked guards.
pub mod Answers
pub mod Cases
