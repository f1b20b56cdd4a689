pub mod Planting
pub mod Executed
pub mod Placing
pub mod Scheduling
