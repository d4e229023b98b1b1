pub mod Replies
pub mod Serving
pub mod Connections
pub mod Guards
