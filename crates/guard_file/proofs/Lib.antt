-- The reader and the layout, lines in their space and on a page, what is kept of the guards, and the whole; then one file in numbers.
pub mod Inside
pub mod File
pub mod Laid
pub mod Printed
pub mod Stored
pub mod Sheets
pub mod Handed
pub mod Whole
pub mod Lent
pub mod Instances
