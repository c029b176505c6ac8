pub mod Wording
pub mod Sums
pub mod Keeps
