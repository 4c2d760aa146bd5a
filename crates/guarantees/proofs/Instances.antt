-- No hypothesis of the guarantees is empty, and what they say is said once more in numbers, so that a statement weakened by a slip no longer
-- gives what stands here.
-- cases 6 and 9 and a deadline before the next arrival, through each of them
pub mod Cases
-- a legal pattern of arrivals of case 6 that is not the synchronous one
pub mod Legal
-- the books of case 13, and of case 6 with a refused step
pub mod Books
-- the figures of answers, what stands beside a refused fresh run, 7 before 8, who gets a tick where several would
pub mod Answers
-- schedules that put handlers first and are not ours
pub mod Schedules
-- what a step accepts, where its tick goes, runs in bounds, one answer
pub mod Rules
-- fixed priorities: a table that is on time, and one that is late though it fits under the earliest deadline
pub mod Priority
