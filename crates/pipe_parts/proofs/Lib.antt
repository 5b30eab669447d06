pub mod Lines
pub mod SlotLemmas
pub mod SlotMoves
pub mod SlotStart
