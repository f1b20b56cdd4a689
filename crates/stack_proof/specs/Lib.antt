pub mod OneTree
pub mod StackTexts
pub mod OrderedAlike
