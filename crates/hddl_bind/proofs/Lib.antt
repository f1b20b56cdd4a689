pub mod MethodsNoted
pub mod WholeTexts
mod examples
pub mod ChainPairs
pub mod Closing
pub mod Called
pub mod Cycles
pub mod Steps
