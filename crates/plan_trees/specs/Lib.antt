pub mod Sources
pub mod Seeds
pub mod Actions
pub mod PlanTrees
