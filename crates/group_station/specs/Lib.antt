pub mod Station
pub mod Steps
pub mod Holding
