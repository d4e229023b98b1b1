pub mod Choices
pub mod Trees
