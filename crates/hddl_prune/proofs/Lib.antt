pub mod PlaceLemmas
pub mod Each
pub mod Tries
pub mod MayCases
pub mod LiveSteps
pub mod ReachSteps
pub mod CopySteps
