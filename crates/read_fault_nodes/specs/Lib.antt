pub mod Rows
pub mod Nodes
