-- What stands at which place of lists numbered from a number on.
pub mod NumberedPlaces
-- Where the printed actions of a stack stand, and its objects.
pub mod StackPlaces
pub mod CellPlaces
-- Types: the objects of a source type are the source's, and those of the type of slots the cells.
pub mod StackTypes
pub mod StackWorded
