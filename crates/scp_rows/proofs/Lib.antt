pub mod Values
pub mod RowWords
pub mod RowLists
pub mod Blocks
pub mod Limits
pub mod TouchLaws
pub mod MoveLaws
