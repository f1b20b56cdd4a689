pub mod Rules
pub mod Parts
pub mod Pieces
pub mod Encodings
pub mod Made
pub mod SeenFacts
