pub mod Tests
pub mod Numbers
pub mod Writes
pub mod Phrases
pub mod Spellings
pub mod Reasons
