-- What a decoder stands on: laws of its problem, of its steps and of their end.
pub mod Sound
pub mod Steps
pub mod Grown
pub mod Effects
pub mod Lists
pub mod Ends
pub mod Allowed
pub mod Guarded
pub mod Obstacles
pub mod NewSlots
pub mod AtTip
pub mod TipSteps
