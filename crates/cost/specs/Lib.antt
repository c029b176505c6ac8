pub mod Limits
pub mod DistanceOrder
pub mod Distances
