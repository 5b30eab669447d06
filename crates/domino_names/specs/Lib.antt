pub mod First
pub mod Infos
pub mod Uses
pub mod Declarations
pub mod Checks
pub mod Symbols
pub mod NamesRefused
