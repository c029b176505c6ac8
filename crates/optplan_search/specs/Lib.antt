pub mod SearchEnds
pub mod Findings
pub mod Schedules
pub mod Searches
