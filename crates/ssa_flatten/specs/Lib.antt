pub mod Flattening
pub mod Views
pub mod Counting
pub mod Flattened
