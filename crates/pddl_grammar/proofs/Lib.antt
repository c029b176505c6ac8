pub mod Runs
pub mod Chains
pub mod WholeNumbers
pub mod Atoms
pub mod ConditionTrees
pub mod RunExamples
pub mod SmallExamples
