pub mod Classes
pub mod Queues
pub mod Saturations
pub mod Searches
pub mod Jobs
pub mod Numbers
