pub mod Pick
pub mod Cursor
