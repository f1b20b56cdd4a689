-- Any rule.
pub mod TakesPicked
pub mod PickedOnce
pub mod PickedExist
pub mod PickedPlans
-- Rules for new slots.
pub mod Following
-- The lowest free slots.
pub mod LowestRule
pub mod LowestFronts
pub mod LowestOnly
pub mod FirstFree
pub mod examples
