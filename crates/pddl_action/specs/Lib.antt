pub mod Limits
pub mod Domains
pub mod Keywords
pub mod Actions
pub mod Readings
