pub mod Beginnings
pub mod Terms
