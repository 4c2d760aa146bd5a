-- Contents. What a reader must believe of the three ways of charging (02, M-113):
-- formula 2, and the two other ways of charging
pub mod Ways
-- what the public call answers
pub mod Promise
-- and that no other answer is allowed
pub mod Unique
-- an answer in words, a number and loads
pub mod Figures
-- formula 2 and both charges worked out by hand: one list, one statement
pub mod Cases
-- what no promise cites
pub mod Inside
