pub mod Simple
pub mod Adding
pub mod PlainArguments
pub mod FileRequests
