pub mod Plans
pub mod Lines
pub mod Statuses
pub mod Faults
pub mod Answers
pub mod Guarantees
pub mod Running
