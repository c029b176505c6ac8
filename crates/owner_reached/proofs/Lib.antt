pub mod Entries
pub mod TieLaws
pub mod Outcomes
pub mod Queues
pub mod Adding
pub mod Currents
pub mod Forms
