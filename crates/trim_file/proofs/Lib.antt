pub mod NamesRead
pub mod Printed
pub mod Written
pub mod Whole
pub mod Pages
