pub mod PacketsLemmas
pub mod EntriesLemmas
pub mod CountsLemmas
pub mod CellsLemmas
