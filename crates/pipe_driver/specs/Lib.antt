pub mod Driver
pub mod Turning
