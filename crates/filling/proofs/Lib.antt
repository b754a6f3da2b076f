pub mod Lines
pub mod Stores
pub mod Chains
pub mod Models
