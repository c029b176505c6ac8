pub mod Spaces
pub mod Owned
pub mod Held
pub mod Successors
pub mod Outboxes
pub mod Batches
