-- Contents, in 01's order. What a reader must believe of the two demands:
-- the limits of a table and of a question
pub mod Limits
-- tests and choices that the definitions share
pub mod Tests
-- the rows of a table
pub mod Rows
-- multiples of rows' periods
pub mod Multiples
-- A, f, D and the margin
pub mod Demands
-- f over whole periods of the handlers (M-102)
pub mod Wholes
-- refusals and their numbers
pub mod Numbered
-- refusals 1, 2, 3, 13 and 5
pub mod Refusals
-- what the public calls answer
pub mod Answers
-- and that no other answer is allowed
pub mod Unique
-- a table under less (00, demand 3)
pub mod Lighter
-- figures of 01's sums done by hand, and the shortcuts that are not f
pub mod Examples
-- what no promise cites
pub mod Inside
