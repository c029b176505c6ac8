pub mod Lines
pub mod SasTexts
pub mod Reading
pub mod Remains
pub mod Marks
