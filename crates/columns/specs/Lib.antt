pub mod Put
pub mod Cells
