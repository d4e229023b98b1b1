mod Words
pub mod Alike
pub mod Registering
pub mod Attaching
pub mod SettingUp
pub mod Visits
pub mod Heights
mod Places
mod Orders
mod Keeping
mod Kept
pub mod Finishing
pub mod GoingOn
pub mod Teardowns
pub mod Unloads
pub mod Dismounts
