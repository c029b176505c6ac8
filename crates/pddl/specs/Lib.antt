pub mod Passes
pub mod Sums
pub mod Texts
pub mod Assembled
