-- How the lengths of the two texts grow with the number of slots.
pub mod Lines
pub mod Digits
pub mod Sizes
pub mod Stay
pub mod SlotWords
pub mod Pieces
pub mod Actions
pub mod Sections
pub mod TextLines
pub mod FewSlots
