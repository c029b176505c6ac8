pub mod ActionLaws
pub mod AtomLaws
pub mod CostLaws
pub mod Lists
pub mod TypeLaws
