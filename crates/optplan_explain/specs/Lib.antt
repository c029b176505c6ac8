pub mod Places
pub mod Shown
pub mod Layouts
pub mod Spots
pub mod Files
pub mod Explanations
