-- Fixed priorities (02, M-103), task by task: in time where a length has room for it and those above it, late where none has.
pub mod Above
pub mod Place
pub mod Slots
pub mod Kept
pub mod FullAbove
pub mod Undone
