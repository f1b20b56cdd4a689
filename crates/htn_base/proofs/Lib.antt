mod LimitLemmas
pub mod DifferentLemmas
pub mod TableLemmas
pub mod OrderedLemmas
pub mod KeptLemmas
pub mod EscapeLemmas
pub mod PackedLemmas
pub mod ReadAt
pub mod examples
