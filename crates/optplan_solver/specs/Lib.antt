pub mod ThreadedSearches
pub mod Stages
pub mod Reduced
pub mod Answers
