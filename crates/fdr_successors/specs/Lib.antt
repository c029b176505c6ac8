pub mod Applicable
pub mod Examples
pub mod Listings
pub mod Numbers
pub mod Trees
