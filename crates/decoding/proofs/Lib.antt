pub mod Formed
pub mod Taken
pub mod FirstCauses
pub mod FailingSteps
pub mod Searched
pub mod Tests
pub mod Locally
pub mod Many
pub mod Numbers
pub mod NextSteps
pub mod ReadSteps
pub mod Kept
pub mod SoundSteps
pub mod Counts
pub mod KeptFronts
pub mod TakenFronts
pub mod SoundCompiled
mod Examples
mod SlotTakenTwice
