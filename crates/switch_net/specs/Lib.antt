pub mod Answer
pub mod Building
pub mod Driving
pub mod Marks
