pub mod Escapes
