pub mod Matching
pub mod Placement
pub mod Laws
