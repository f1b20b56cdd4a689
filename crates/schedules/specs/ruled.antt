pub mod Narrowed
pub mod Laws
pub mod SlotRule
pub mod LowestSlots
pub mod FirstFreeLaws
