pub mod Frames
pub mod Pieces
pub mod Guards
pub mod Made
pub mod Vocabulary
