pub mod TotalOrder
pub mod StackSpelling
pub mod StackNames
pub mod StackActions
pub mod StackValue
pub mod StackWords
pub mod StackPrinted
