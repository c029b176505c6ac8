pub mod Naming
pub mod Judgements
pub mod Answers
