pub mod Staying
pub mod Images
pub mod Runs
pub mod Limits
pub mod Loops
