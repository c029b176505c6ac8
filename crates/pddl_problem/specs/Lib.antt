pub mod Limits
pub mod Initial
pub mod Goals
