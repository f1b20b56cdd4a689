pub mod Numerals
pub mod Said
pub mod Requests
pub mod Told
pub mod examples
