pub mod Widths
pub mod ChildRows
pub mod Keeping
pub mod Settings
pub mod StepLaws
pub mod PutWords
pub mod TheSpelling
