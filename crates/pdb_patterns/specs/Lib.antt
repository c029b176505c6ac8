pub mod Patterns
pub mod GoalClasses
pub mod Choices
