pub mod AllWords
-- Why the conditions are there.
mod WithoutWords
