pub mod PrintedHddl
pub mod Texts
pub mod Lengths
pub mod Ids
