pub mod PlaceLaws
pub mod IndexLaws
pub mod TestLaws
pub mod GroupLaws
pub mod SetLaws
