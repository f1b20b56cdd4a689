pub mod Words
pub mod Uses
pub mod Standing
pub mod Named
pub mod Types
pub mod Networks
pub mod Faults
pub mod Laws
