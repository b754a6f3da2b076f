pub mod Nodes
pub mod Value
