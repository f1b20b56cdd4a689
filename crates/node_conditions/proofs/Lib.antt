pub mod Noting
pub mod Taking
pub mod Coming
pub mod Going
pub mod Told
pub mod Kept
pub mod Having
pub mod Rows
