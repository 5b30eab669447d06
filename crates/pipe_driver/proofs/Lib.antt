pub mod MessageLemmas
pub mod LaneLemmas
pub mod HearLemmas
pub mod TellLemmas
pub mod TurnLemmas
pub mod DriverLemmas
pub mod Crossing
