pub mod Spelling
pub mod Lamp
pub mod Pieces
pub mod Reading
pub mod Cursors
pub mod Leading
