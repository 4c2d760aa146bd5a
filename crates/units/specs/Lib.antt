-- Contents. A table in finer ticks, and in another order (02, M-104), said of the very definitions that `verdict` and
-- `responses` promise.
-- every cost, period and deadline multiplied by one whole number
pub mod Finer
-- what that does to the figures of a sheet
pub mod FinerTicks
-- the same rows in any order
pub mod Orders
-- which changes no answer
pub mod OtherOrder
-- the least lengths of fixed priorities, in both
pub mod Responses
