pub mod Worlds
pub mod Possible
pub mod Kept
pub mod Starts
