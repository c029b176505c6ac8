pub mod Bytes
pub mod Decimals
pub mod Lines
pub mod Plain
pub mod Passes
