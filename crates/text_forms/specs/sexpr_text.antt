pub mod Seen
pub mod Refused
pub mod Places
pub mod Kept
pub mod Index
pub mod Positions
