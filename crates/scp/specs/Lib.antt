pub mod Partitions
pub mod Places
pub mod Orders
