mod LabelLemmas
mod LineLemmas
mod PlanLemmas
mod TextLemmas
pub mod CountLemmas
mod PartLemmas
mod CellLemmas
mod EntryLemmas
mod ReportLemmas
mod SumLemmas
mod WholeLemmas
mod EndLemmas
mod TraceLemmas
pub mod SourceLemmas
