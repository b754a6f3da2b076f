pub mod Queries
pub mod Demand
pub mod Filling
pub mod Hetero
pub mod Reading
