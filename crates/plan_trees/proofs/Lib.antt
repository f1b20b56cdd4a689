pub mod SeedLists
pub mod Growing
pub mod Fitted
pub mod Seeding
pub mod Labelling
pub mod FittedTrees
pub mod Planted
pub mod Joined
