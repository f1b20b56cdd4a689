pub mod places
pub mod StackOver
pub mod words
pub mod said
pub mod examples
