-- Contents. A table file trimmed (02, M-112):
-- names of tasks
pub mod Names
-- what is printed of it
pub mod Printed
-- from the bytes of a file to the bytes that are written
pub mod Whole
-- what no promise cites
pub mod Inside
