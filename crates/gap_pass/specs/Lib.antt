pub mod Children
pub mod Tours
pub mod Least
pub mod Conditions
pub mod Passes
pub mod LatestGaps
