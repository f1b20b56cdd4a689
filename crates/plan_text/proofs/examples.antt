pub mod PlanRows
