pub mod Words
pub mod Ranges
pub mod Cells
pub mod Domain
pub mod Copies
