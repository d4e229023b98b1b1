pub mod Orders
pub mod Searches
pub mod Verdicts
