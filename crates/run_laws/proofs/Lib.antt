pub mod RunLemmas
pub mod PlanLemmas
