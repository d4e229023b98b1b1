mod Words
pub mod Files
pub mod Listings
pub mod Writes
pub mod Reading
pub mod Paging
pub mod Keeping
