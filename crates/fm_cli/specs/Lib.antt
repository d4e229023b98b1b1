pub mod Usage
pub mod Values
pub mod Requests
pub mod Fronts
pub mod Faults
