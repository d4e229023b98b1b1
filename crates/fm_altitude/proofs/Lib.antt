pub mod Points
pub mod Grammar
pub mod Padding
pub mod Reading
