pub mod Lines
pub mod Past
pub mod ByRank
pub mod Blocks
pub mod NoBound
pub mod stratifier
pub mod method_precs
