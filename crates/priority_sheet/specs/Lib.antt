-- Contents.
-- the lines of an answer
pub mod Printed
-- from the bytes of a file to the bytes of its lines
pub mod Whole
