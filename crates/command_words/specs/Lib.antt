pub mod Names
pub mod Bounds
pub mod Forms
pub mod Options
pub mod Words
