pub mod Totals
pub mod Greatest
pub mod AlongStack
pub mod TheStackSpelling
pub mod PutSteps
pub mod OneMore
