-- Contents. Tables held by column (02, M-111):
-- the two orders of a list, and the law that ties them
pub mod Order
-- a table put into row order
pub mod Held
