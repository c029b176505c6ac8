pub mod Reached
pub mod Entries
pub mod TakingBack
pub mod Reaching
pub mod Holding
pub mod Indexing
pub mod Ever
