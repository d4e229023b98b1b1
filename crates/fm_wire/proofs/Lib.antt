mod Words
pub mod Bytes
pub mod Forms
pub mod Parts
pub mod Streams
pub mod Spellings
pub mod OneReading
pub mod OneFrame
