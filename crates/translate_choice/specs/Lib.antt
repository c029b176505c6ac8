pub mod Choices
pub mod Greedy
