pub mod Devices
pub mod Bases
pub mod Lending
