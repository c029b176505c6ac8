pub mod OperatorLists
pub mod Entering
