pub mod CostBounds
pub mod Keys
