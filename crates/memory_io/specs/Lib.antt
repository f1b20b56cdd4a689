pub mod Steady
pub mod Script
