pub mod Folders
pub mod Answers
pub mod Stored
pub mod Failing
pub mod Pages
