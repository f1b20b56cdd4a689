pub mod examples
pub mod Marks
pub mod PartsOf
pub mod Numbers
pub mod NumberLaws
