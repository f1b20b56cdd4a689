pub mod TwoChildren
