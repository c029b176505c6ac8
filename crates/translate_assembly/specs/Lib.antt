pub mod Slots
pub mod Facts
pub mod Operators
pub mod Limits
pub mod Carried
