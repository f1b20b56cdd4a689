pub mod Packages
pub mod OwnIds
pub mod Reached
pub mod Sound
pub mod Printed
pub mod Short
mod examples
