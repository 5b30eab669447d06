pub mod DriveLemmas
pub mod EndLemmas
pub mod MoveLemmas
pub mod MarkLemmas
pub mod LaneLemmas
pub mod RunLemmas
