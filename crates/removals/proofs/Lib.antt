pub mod Cut
pub mod Scan
pub mod First
pub mod Laws
