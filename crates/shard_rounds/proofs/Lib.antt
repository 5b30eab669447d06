pub mod Moves
pub mod Rows
pub mod Tables
pub mod Choosing
pub mod Sames
