pub mod Lowering
pub mod Plain
