-- Contents.
-- greatest common divisor and least common multiple of two numbers
pub mod Euclid
