-- Contents.
-- the two lines of an answer
pub mod Printed
-- from the bytes of a file to the bytes of its sheet
pub mod Whole
-- case 9 in full
pub mod Example
