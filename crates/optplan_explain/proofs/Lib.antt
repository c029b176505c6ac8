pub mod Appends
pub mod Explained
pub mod InLine
