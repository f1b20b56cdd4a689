-- What is found for a word, and the objects of types.
pub mod PlaceLaws
pub mod KindLaws
pub mod IndexLaws
pub mod ListLaws
pub mod PrintedLaws
pub mod PrintedNames
pub mod PrintedArguments
