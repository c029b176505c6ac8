pub mod FactLaws
pub mod ValueLaws
pub mod Following
pub mod SamePlans
pub mod Ranges
pub mod Bounding
