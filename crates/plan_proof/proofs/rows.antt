pub mod OneChild
pub mod PlanRuns
pub mod Methods
pub mod SmallestPlan
pub mod CallsItself
pub mod Texts
pub mod Printed
