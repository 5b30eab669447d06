pub mod PlaceLemmas
pub mod Ordered
pub mod RowLemmas
pub mod MarkLemmas
pub mod NodeLemmas
pub mod HandLemmas
