pub mod HashLemmas
pub mod WordLemmas
