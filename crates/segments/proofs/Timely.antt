-- An accepted schedule as one that puts handlers first and meets every deadline.
pub mod Called
pub mod Lives
