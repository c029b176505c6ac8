pub mod Ancestors
pub mod TypeSteps
pub mod ObjectSteps
pub mod HeadItems
