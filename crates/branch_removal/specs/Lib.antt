pub mod GuardedLines
pub mod Shapes
pub mod Kept
pub mod Followed
