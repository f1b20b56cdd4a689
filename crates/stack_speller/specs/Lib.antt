pub mod Tips
pub mod StackSteps
pub mod StackSpelled
