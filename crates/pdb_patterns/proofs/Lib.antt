pub mod Longer
pub mod Classes
pub mod GoalValues
pub mod Choices
