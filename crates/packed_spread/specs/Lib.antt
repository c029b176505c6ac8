pub mod Drawn
pub mod OwnerLaws
pub mod Projections
pub mod Spreads
