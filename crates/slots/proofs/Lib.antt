pub mod Probes
pub mod Added
