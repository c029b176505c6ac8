pub mod IdentityLaws
pub mod Numbering
pub mod RowLaws
