pub mod Accounts
pub mod Findings
pub mod Mistakes
