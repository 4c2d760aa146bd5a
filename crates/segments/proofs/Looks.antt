-- A look at a row, at all rows and at a piece, as the code takes it.
pub mod Figures
pub mod Scans
pub mod Stretches
