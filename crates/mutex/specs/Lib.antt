pub mod Candidates
pub mod Examples
pub mod Proposals
pub mod Steps
