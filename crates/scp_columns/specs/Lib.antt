pub mod ColumnTables
pub mod TableProps
pub mod Partitions
pub mod EarlierTables
