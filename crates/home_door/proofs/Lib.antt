pub mod Flags
pub mod DoorLemmas
