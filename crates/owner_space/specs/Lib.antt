pub mod Spaces
pub mod Keyed
pub mod Costs
pub mod Steps
pub mod Late
