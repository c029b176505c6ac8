pub mod Replies
pub mod Reporting
pub mod Unput
