pub mod Subtasks
pub mod Fits
