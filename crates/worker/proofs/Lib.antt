pub mod Rows
pub mod Working
pub mod Fits
pub mod Steps
pub mod Chains
pub mod Congesting
pub mod Opening
