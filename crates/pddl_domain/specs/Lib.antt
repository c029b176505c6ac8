pub mod Limits
pub mod Cycles
pub mod Types
pub mod Objects
pub mod DeclaredHeads
