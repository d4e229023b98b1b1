mod Parts
mod Heads
pub mod Lists
pub mod Firsts
pub mod Refusals
pub mod Rising
