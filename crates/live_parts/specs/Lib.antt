pub mod Live
pub mod Kept
pub mod Pruned
pub mod SameSchemas
pub mod Laws
pub mod PrunedSound
