pub mod ChoicePlans
pub mod CountLemmas
pub mod ArrivalLemmas
pub mod PlannerLemmas
