-- Contents.
-- the printed lines
pub mod Printed
-- the span as it is said
pub mod Spans
-- the whole: from bytes to bytes
pub mod Whole
