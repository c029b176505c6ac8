pub mod Workers
pub mod Turns
pub mod Counts
pub mod Matching
