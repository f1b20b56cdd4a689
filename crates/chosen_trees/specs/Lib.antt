pub mod ChosenTrees
pub mod Growing
