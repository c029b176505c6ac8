pub mod Conditions
pub mod Effects
pub mod Literals
