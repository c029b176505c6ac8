pub mod Prefixes
pub mod Rows
