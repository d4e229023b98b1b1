pub mod Numbers
pub mod Hexadecimal
pub mod Words
