pub mod Results
pub mod Cells
