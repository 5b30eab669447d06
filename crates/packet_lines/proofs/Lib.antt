pub mod Counts
pub mod Leaving
pub mod Coming
pub mod Start
pub mod Kept
