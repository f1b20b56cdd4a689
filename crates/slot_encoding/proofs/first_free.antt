-- With one predicate more, what is sound stays so, and what is said stays the same.
pub mod MorePredicates
pub mod FirstWords
pub mod FirstValue
-- What is added is sound, so the printed problem with first-free slots is printable.
pub mod Conditions
pub mod FirstActions
pub mod FirstPrintable
-- There is one, and it has one pair of texts.
pub mod FirstExists
pub mod FirstSame
