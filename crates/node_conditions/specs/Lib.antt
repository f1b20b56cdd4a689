pub mod Taken
pub mod Looks
pub mod Demands
pub mod Standing
pub mod Stands
pub mod Laws
