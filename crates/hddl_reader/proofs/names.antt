pub mod Ones
pub mod Least
pub mod Firsts
pub mod Rolls
