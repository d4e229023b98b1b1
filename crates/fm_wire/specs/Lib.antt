pub mod Spelling
pub mod Grammar
pub mod Stream
pub mod Laws
