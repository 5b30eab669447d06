pub mod Rounds
pub mod Holding
pub mod Choice
