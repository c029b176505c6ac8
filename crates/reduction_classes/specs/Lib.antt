pub mod Classes
pub mod Reduced
pub mod Lamp
