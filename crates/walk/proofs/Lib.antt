pub mod Pruned
pub mod Parts
pub mod Turns
pub mod Laws
