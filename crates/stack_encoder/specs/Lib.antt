pub mod Pieces
pub mod Words
pub mod Heads
pub mod Made
pub mod StackTexts
