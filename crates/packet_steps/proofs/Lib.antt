pub mod WayLemmas
pub mod ServingLemmas
