-- One list that is taken, and one that isn't.
pub mod ThreeActions
