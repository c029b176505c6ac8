pub mod Ranks
pub mod Returned
pub mod Ends
pub mod Tables
