pub mod Keeping
pub mod Numbered
pub mod Puts
