-- Gaps in which something flips, those that are kept for keys and for atoms, and what a look and an effect come to over them.
pub mod GapLaws
pub mod KeptLaws
pub mod FlipLaws
pub mod LookLaws
pub mod GatherLaws
pub mod HistoryLaws
