pub mod Gaps
pub mod Flips
pub mod Desks
pub mod Looks
pub mod Gathered
pub mod Histories
