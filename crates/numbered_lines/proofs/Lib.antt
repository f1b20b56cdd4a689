pub mod Listed
pub mod Placed
pub mod Worded
pub mod Known
