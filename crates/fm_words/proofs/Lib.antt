pub mod Lengths
pub mod Spellings
pub mod Numbers
pub mod Rows
pub mod Cuts
