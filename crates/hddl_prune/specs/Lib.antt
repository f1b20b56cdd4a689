pub mod Pruning
pub mod Places
pub mod Search
pub mod Chosen
pub mod Joined
