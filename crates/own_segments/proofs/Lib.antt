-- the drawing of a schedule, tick by tick
pub mod Drawings
-- segments in time order, one behind the other
pub mod Orders
-- segments as numbers, and zeros behind them
pub mod Lists
-- what the pen holds
pub mod Pens
-- the synchronous arrivals by place, and ticks without any
pub mod Rhythms
-- the synchronous run over a tick with arrivals, over ticks without, and once it is over
pub mod Runs
-- all segments drawn, turn by turn
pub mod Walks
-- the answer
pub mod Promise
-- and one answer only
pub mod Unique
-- one row: its arrivals, and what a tick takes of its work
pub mod OneRow
-- what each row is owed and was given
pub mod Shares
-- so our own schedule breaks no rule for as long as the run is not over
pub mod Fine
-- our own segments are of rows of the table, so the judge reads them
pub mod Known
-- what the judge answers to them
pub mod Judged
