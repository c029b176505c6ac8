pub mod Clauses
pub mod Violations
pub mod ClosedLists
pub mod Examples
