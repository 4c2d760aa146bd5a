-- Contents. What a walk along events is said to do:
-- entries in order of their next events, the work to come, taking and adding
pub mod Queue
