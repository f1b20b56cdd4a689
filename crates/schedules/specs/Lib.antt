-- The latest schedule of a tree.
pub mod latest
-- Rules for new slots.
pub mod ruled
