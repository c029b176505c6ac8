pub mod Refinements
pub mod Classes
