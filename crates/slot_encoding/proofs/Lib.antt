pub mod ValueOver
pub mod Pieces
pub mod examples
pub mod places
pub mod words
pub mod existence
pub mod first_free
