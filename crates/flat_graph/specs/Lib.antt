pub mod Nodes
pub mod ReachedArrays
pub mod Orders
pub mod Passes
pub mod Layouts
