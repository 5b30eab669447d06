pub mod Clean
pub mod HeaderRun
pub mod HeaderSteps
pub mod Places
pub mod Order
pub mod Groups
pub mod Resolve
