pub mod Limits
pub mod Faults
pub mod Words
pub mod Numbers
pub mod Typed
pub mod Parameters
pub mod Heads
pub mod Sections
