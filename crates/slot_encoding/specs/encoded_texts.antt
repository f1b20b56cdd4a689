pub mod FullyEncoded
pub mod NamedObjects
pub mod Growth
