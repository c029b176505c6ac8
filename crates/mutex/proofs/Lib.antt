pub mod CandidateLaws
pub mod InstanceLaws
pub mod ProposalLaws
