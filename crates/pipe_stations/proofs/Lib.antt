pub mod RowLemmas
pub mod StartLemmas
pub mod AnnounceLemmas
pub mod FinishLemmas
