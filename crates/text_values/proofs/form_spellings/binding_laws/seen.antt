pub mod Bound
pub mod Pairs
pub mod Unions
