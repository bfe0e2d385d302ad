pub mod PlanLaws
pub mod steps
