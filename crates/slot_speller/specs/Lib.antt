pub mod Free
pub mod Children
pub mod Slots
pub mod Steps
pub mod Spelled
