pub mod OrderParts
pub mod NextSlot
pub mod Meanings
