-- What is printed for what is said.
pub mod SaidParts
pub mod SaidTexts
-- What is encoded over two tables says the same.
pub mod SaidAlike
pub mod SourceSaid
pub mod EncodedParts
pub mod EncodedActions
pub mod KeptSame
-- So it has one pair of texts.
pub mod SameTexts
-- How its texts grow with the number of slots.
pub mod growth
pub mod examples
