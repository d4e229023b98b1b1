pub mod Returns
mod Passes
