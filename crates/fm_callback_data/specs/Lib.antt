pub mod Calls
pub mod Params
pub mod Requests
pub mod Data
