pub mod Kept
pub mod Splits
pub mod Seating
pub mod Joining
pub mod Faults
pub mod Followed
pub mod Gathering
pub mod Relays
