pub mod Texts
pub mod StackTexts
