pub mod Digits
pub mod Trees
pub mod TypedLists
pub mod Firsts
pub mod HeadSteps
pub mod ParameterSteps
