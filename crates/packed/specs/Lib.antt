pub mod Fields
pub mod Masks
