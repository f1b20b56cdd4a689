pub mod Slots
pub mod ArePrinted
pub mod Lengths
pub mod FewSlots
pub mod Pages
pub mod LowerParts
