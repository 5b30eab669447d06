pub mod RowLemmas
pub mod GroupLemmas
pub mod PacketLemmas
pub mod CellLemmas
pub mod AnswerLemmas
pub mod UnitLemmas
