pub mod Nodes
pub mod Depth
pub mod Postfix
pub mod Topmost
pub mod Laws
