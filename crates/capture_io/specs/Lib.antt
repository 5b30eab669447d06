pub mod Encoding
pub mod ClassicCapture
pub mod Refusal
pub mod Header
pub mod Reading
pub mod Fields
pub mod Rows
