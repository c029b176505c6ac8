pub mod PlanNames
pub mod Plans
pub mod Steps
pub mod Kinds
pub mod Answers
pub mod Prepared
