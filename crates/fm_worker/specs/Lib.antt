pub mod OpQueues
pub mod Ports
pub mod Between
pub mod Jobs
