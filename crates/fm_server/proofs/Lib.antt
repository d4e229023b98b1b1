pub mod Known
pub mod Frames
pub mod Pieces
pub mod Turns
mod Entering
