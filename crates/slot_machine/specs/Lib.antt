pub mod Machine
pub mod Reached
pub mod Causes
pub mod OtherMachine
pub mod Laws
pub mod bound_laws
