pub mod Choices
pub mod Meeting
pub mod Only
pub mod Settled
pub mod Ranges
pub mod Worlds
pub mod DeclaredParams
