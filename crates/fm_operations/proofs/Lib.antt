mod Words
pub mod Owed
mod Synchronized
pub mod Holds
mod Lowest
pub mod Walks
pub mod Course
pub mod Depths
pub mod Settled
pub mod Counting
pub mod Calm
pub mod Noted
pub mod Soundness
pub mod Placing
pub mod Next
pub mod Returns
pub mod Resumes
pub mod Drains
pub mod Tallied
pub mod Flows
mod Follows
pub mod Passing
pub mod Requests
mod Seeing
mod Turns
