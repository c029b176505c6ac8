pub mod Tables
pub mod Outcomes
pub mod Limits
pub mod Entries
pub mod Rows
pub mod Hints
