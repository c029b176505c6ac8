pub mod Certificates
pub mod Classes
pub mod Kept
pub mod Views
pub mod Lawful
