pub mod Places
pub mod Domains
pub mod Kinds
pub mod Index
pub mod Printed
