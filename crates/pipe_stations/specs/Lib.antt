pub mod Row
pub mod RowSteps
