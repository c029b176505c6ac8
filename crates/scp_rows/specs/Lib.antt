pub mod Rows
pub mod Flats
pub mod Moves
