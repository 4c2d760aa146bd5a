pub mod Tabled
pub mod Order
pub mod Alike
pub mod Held
pub mod Filled
pub mod Lent
pub mod Instances
