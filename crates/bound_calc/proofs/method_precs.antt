pub mod Growing
pub mod SameKeys
pub mod Fits
pub mod SinglePairs
pub mod OrderParts
pub mod Problems
