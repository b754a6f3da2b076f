pub mod Laws
pub mod Returns
pub mod Records
