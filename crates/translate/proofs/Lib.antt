pub mod Limits
pub mod KnownAtoms
pub mod Promises
