pub mod Growing
pub mod Increasing
pub mod Numbers
pub mod Walking
pub mod Listing
