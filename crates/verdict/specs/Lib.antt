-- Contents, in 01's order. What a reader must believe of the verdict:
-- H, the least common multiple of all periods
pub mod Multiples
-- W, E, what short deadlines add, and the load
pub mod Loads
-- lengths that pass, the shortest that fails, test lengths
pub mod Lengths
-- the facts that end the search
pub mod Facts
-- the idle point, where all work has drained (M-105)
pub mod Idle
-- how many lengths were tested (M-109)
pub mod Tested
-- what the verdict promises: refusals, yes, no, and their figures
pub mod Promise
-- and that no other answer is allowed
pub mod Unique
-- what a load says (M-100)
pub mod Full
-- a yes holds under less (00, demand 3)
pub mod Lightening
-- cases 1 to 12, and cases with short deadlines
pub mod Cases
-- what no promise cites
pub mod Inside
