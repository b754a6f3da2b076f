pub mod Shift
pub mod Blocks
pub mod Laws
pub mod Returns
