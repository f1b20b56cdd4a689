pub mod PlacedPlans
pub mod RefusedPlans
