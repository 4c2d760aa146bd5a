-- Contents. What a reader must believe of a run over a stretch without arrivals (02, M-108):
-- so many steps without arrivals, and what `advance` answers
pub mod Stretch
-- what `next_piece` promises, and that no other answers are allowed
pub mod Promise
-- what no promise cites
pub mod Inside
