pub mod Jobs
pub mod Tallies
pub mod Passes
pub mod Calls
