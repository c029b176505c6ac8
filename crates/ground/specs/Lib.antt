pub mod Search
pub mod Agreement
pub mod Columns
pub mod Indexes
pub mod Rounds
pub mod Closing
pub mod Open
