-- Contents. What a reader must believe of the rows of a guard (02, M-107):
-- what a guard costs, and its refusals
pub mod Guards
-- what the public call answers
pub mod Answers
-- guards worked by hand: one list, one statement
pub mod Cases
-- what no promise cites
pub mod Inside
