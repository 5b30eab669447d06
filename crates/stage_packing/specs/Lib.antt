pub mod Members
pub mod Spots
pub mod Depths
