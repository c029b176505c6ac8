pub mod Events
pub mod Memory
