pub mod Parts
pub mod Faults
pub mod Flags
pub mod Passed
