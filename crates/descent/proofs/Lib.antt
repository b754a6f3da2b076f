pub mod Sites
pub mod Turns
