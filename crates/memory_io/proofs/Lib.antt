pub mod Folders
pub mod Steady
pub mod examples
