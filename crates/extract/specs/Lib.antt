pub mod Views
pub mod Ends
pub mod Pending
pub mod Goals
pub mod Bounds
