pub mod WithRow
pub mod Renumbered
pub mod Splits
pub mod Ordered
pub mod Ranges
pub mod Avoiding
pub mod Chosen
pub mod MappingRows
