pub mod Calls
pub mod Records
pub mod ChosenValues
pub mod Laws
