-- Contents. What the harness lays into arrays that a test in another language lends.
-- a run and an answer as numbers, and what each call leaves
pub mod Numbers
