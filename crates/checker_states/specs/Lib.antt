pub mod Hashes
pub mod Lists
pub mod Indexes
pub mod Places
pub mod Coverings
