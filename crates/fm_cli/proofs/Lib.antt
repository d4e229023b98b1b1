pub mod Rows
pub mod Workers
