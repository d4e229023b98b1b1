pub mod Blanks
pub mod Views
pub mod Hired
pub mod Events
pub mod Lending
pub mod Replies
pub mod Runs
pub mod Turns
