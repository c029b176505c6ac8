pub mod Lists
pub mod Verdicts
pub mod OneAnswer
