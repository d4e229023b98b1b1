pub mod Answers
pub mod BaseCalls
