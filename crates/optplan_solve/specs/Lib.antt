pub mod Outputs
pub mod Schedules
pub mod Solving
pub mod SasSolving
