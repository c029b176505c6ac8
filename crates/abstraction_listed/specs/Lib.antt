pub mod Affecting
pub mod AffectingLaws
pub mod Entries
