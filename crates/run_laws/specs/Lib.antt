pub mod Run
pub mod LawfulPlans
pub mod Trace
