-- Whole values and their texts, byte for byte: the smallest problem, and one with methods of no, one and three children.
pub mod StackParts
pub mod StackSmallest
pub mod StackRow
-- Which rows are totally ordered.
pub mod TotalRows
