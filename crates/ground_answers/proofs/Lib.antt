pub mod MaySource
pub mod MaySame
pub mod SameNetwork
pub mod SameReached
pub mod SameWords
pub mod GroundAlike
