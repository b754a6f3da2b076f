pub mod Cells
pub mod Numbers
pub mod Lines
pub mod Words
pub mod Symbols
pub mod Parts
pub mod Fits
