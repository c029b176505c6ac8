pub mod Rows
pub mod Domains
pub mod DomainLaws
