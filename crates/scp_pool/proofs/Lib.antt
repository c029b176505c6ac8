pub mod Distinct
pub mod Extensions
pub mod Collected
