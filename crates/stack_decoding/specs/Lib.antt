pub mod StackSteps
pub mod StackStepLaws
pub mod StackShown
