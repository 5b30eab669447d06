pub mod EvalLemmas
pub mod PlaceLemmas
