-- A schedule by pieces, stretches of ticks that all go to one row, or to none.
pub mod OneRow
pub mod Counts
pub mod Piece
pub mod Breaks
pub mod Tests
pub mod Outcomes
pub mod Order
