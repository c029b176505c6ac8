pub mod Boxing
pub mod Using
pub mod Showing
pub mod Withdrawing
pub mod Results
