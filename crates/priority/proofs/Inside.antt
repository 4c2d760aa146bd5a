-- The order of priorities as numbers, the climb, and the search of all tasks.
pub mod Ranks
pub mod Climb
pub mod Search
