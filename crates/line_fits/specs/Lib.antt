pub mod Fitted
pub mod ByNumbers
