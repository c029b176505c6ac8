pub mod Schedules
pub mod Ends
pub mod Settled
pub mod WorldEnds
pub mod OwnFindings
