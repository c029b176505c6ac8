pub mod Limits
pub mod Atoms
pub mod Examples
pub mod Lifted
pub mod Planning
pub mod Plans
