-- Lines in their space, lines on a page, and the whole.
pub mod Printed
pub mod Laid
pub mod Whole
