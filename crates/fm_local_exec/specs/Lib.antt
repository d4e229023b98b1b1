pub mod Said
pub mod Locals
