-- Laws of responses, of ranks and of the climb; then of the answer, and the worked tables.
pub mod Response
pub mod Inside
pub mod Answers
pub mod Cases
