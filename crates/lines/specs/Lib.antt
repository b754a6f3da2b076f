pub mod Taken
pub mod Nearest
pub mod Figures
pub mod Fields
pub mod Text
pub mod Exactly
pub mod Small
pub mod Numbered
