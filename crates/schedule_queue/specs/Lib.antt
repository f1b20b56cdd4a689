pub mod Orders
pub mod Children
pub mod Given
pub mod Queue
pub mod Kept
