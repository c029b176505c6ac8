pub mod Words
pub mod Statuses
pub mod Faults
pub mod Reports
pub mod Runs
