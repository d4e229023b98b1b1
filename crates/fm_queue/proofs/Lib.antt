mod Sums
pub mod Jobs
pub mod Rule
