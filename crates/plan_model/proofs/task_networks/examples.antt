pub mod Nets
mod Orders
mod Schedules
mod Spellings
mod Bounds
