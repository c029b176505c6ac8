pub mod NameLists
pub mod NameStrings
