pub mod Leading
pub mod Pieces
pub mod Exits
