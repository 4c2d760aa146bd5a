-- Fixed priorities (specs/Priority): on time where every task has a response, late where one has none.
pub mod Asked
pub mod Said
pub mod OnTime
pub mod NeverLate
pub mod Late
