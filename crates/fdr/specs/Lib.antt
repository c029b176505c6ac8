pub mod Limits
pub mod Tasks
