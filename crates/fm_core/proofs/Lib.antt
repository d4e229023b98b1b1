mod Words
pub mod Changes
pub mod Counted
pub mod Operated
pub mod Passes
pub mod Resumed
pub mod Torn
pub mod Drained
pub mod Holding
pub mod Called
pub mod Linked
pub mod Cleaned
pub mod Losing
pub mod Rising
pub mod Named
