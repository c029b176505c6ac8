pub mod Names
pub mod Translations
pub mod Bounds
pub mod Worked
pub mod Variables
