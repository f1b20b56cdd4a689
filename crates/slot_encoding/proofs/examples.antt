-- What rows in words are proved with.
pub mod RowTexts
pub mod TopPlan
-- Whole values, and a plan.
pub mod EncodedSmallest
pub mod SmallestPlan
pub mod EncodedGuard
-- Rows in words: constraints in both senses, a union, guards on objects.
pub mod EncodedConstraints
pub mod EncodedUnion
pub mod EncodedObjectGuard
-- First-free slots.
pub mod FirstFreeRow
