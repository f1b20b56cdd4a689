pub mod StepTexts
pub mod StackTexts
