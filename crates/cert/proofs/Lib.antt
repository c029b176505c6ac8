pub mod StateOrder
pub mod Shuffles
pub mod HeldLists
pub mod LawfulLists
pub mod Listing
pub mod Copies
pub mod ExpandedLists
pub mod Searches
mod KeyBits
mod KeyOrder
