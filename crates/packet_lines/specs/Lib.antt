pub mod Lined
pub mod Keeping
