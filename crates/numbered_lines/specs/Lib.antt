pub mod Numbered
pub mod LinePlaces
pub mod WordNumbers
