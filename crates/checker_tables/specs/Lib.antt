pub mod Changes
pub mod MappedTables
pub mod Moves
pub mod Rests
pub mod ShareSums
pub mod TableFaults
pub mod TablePlaces
