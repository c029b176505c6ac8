pub mod Teams
pub mod Draining
pub mod Asking
pub mod Searches
pub mod Steps
