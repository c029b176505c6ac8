pub mod Spelled
pub mod Answering
