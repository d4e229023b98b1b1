mod Words
mod Lists
mod Bits
pub mod Counts
pub mod Kept
pub mod Changed
pub mod Held
pub mod Scheduled
