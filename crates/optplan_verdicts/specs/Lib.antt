pub mod Answers
pub mod Validation
pub mod Checking
pub mod SasChecking
