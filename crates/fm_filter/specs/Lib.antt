pub mod Absent
pub mod Either
pub mod Handed
pub mod Hands
pub mod Plain
pub mod Registers
pub mod Standing
