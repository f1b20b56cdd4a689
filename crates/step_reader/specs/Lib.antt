pub mod Arguments
pub mod Cells
pub mod Readings
pub mod StackReadings
