pub mod Plans
pub mod Departing
pub mod Coming
pub mod Lowered
pub mod Laws
pub mod Printing
