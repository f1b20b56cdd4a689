pub mod InTypes
pub mod Kept
pub mod SingleWords
pub mod Encoded
