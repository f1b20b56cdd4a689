pub mod Pairs
pub mod Ordered
pub mod Keys
pub mod Small
pub mod Plans
