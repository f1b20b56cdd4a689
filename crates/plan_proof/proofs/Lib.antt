pub mod texts
pub mod examples
pub mod machine
pub mod values
pub mod rows
pub mod one
