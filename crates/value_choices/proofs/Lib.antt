-- Values in lexicographic order, and how a choice moves on.
pub mod Increasing
pub mod Counting
pub mod Ranged
pub mod Turning
pub mod Typed
pub mod Beginning
pub mod Comparing
pub mod Known
pub mod KnownAlone
pub mod Settling
pub mod Choosing
pub mod TypedObjects
