pub mod Queries
pub mod Demand
pub mod Filling
pub mod Hetero
pub mod Held
pub mod ReadRun
pub mod RoundTrip
pub mod Reading
