pub mod Removal
pub mod Named
