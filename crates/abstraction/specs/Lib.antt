pub mod Abstractions
pub mod Projections
pub mod Digits
pub mod Facts
pub mod Columns
pub mod Steps
pub mod ProjectionLaws
