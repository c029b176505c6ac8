pub mod OperatorLaws
pub mod EntryLaws
