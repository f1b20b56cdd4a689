pub mod StepNames
pub mod CellSteps
pub mod Tips
pub mod Translated
pub mod ActLists
pub mod StackLists
