pub mod Terms
pub mod Records
