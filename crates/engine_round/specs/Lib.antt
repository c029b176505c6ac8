pub mod Turns
pub mod Jobs
pub mod Rounds
