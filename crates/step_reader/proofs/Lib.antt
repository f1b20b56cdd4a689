-- What a step's words are read as, and where all that is asked holds.
pub mod SlotWords
pub mod CellWords
pub mod RowLaws
pub mod LineCells
pub mod StackParts
pub mod NewCells
pub mod StackReadLaws
pub mod NameLaws
pub mod ReadLaws
pub mod PartLaws
pub mod SoundReadable
