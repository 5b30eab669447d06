pub mod Worker
pub mod Finished
