pub mod PlacedLaws
pub mod ChoiceLaws
pub mod GreedyLaws
