pub mod Owners
pub mod Families
pub mod Worlds
pub mod Threads
pub mod Examples
