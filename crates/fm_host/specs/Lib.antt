pub mod Told
pub mod Names
pub mod Kinds
