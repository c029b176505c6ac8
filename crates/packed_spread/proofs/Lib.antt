pub mod Changes
pub mod Drawing
pub mod Places
pub mod Projecting
