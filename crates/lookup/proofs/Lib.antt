pub mod Serials
pub mod Scan
pub mod Laws
