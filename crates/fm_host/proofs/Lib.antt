pub mod Texts
pub mod Listings
