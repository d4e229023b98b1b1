pub mod Lines
pub mod Scenarios
pub mod Verdicts
