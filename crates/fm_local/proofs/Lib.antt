pub mod Words
pub mod operations
pub mod instances
pub mod queues
pub mod samples
