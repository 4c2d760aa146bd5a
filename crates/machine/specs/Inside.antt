-- What no promise cites.
-- legal arrivals of rows at work, and the table of such rows
pub mod Legal
-- rows at work by place: the lists have a number for each row
pub mod Listed
