pub mod PartLists
pub mod OtherParts
pub mod OrderParts
pub mod Works
pub mod Methods
pub mod Values
pub mod FirstValues
