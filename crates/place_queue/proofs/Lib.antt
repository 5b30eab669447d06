pub mod Ordering
pub mod Counting
pub mod Floors
pub mod Announcing
pub mod KeepingLemmas
