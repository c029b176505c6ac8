pub mod Judgements
pub mod Claims
pub mod OneAnswer
pub mod CheckedTexts
pub mod Unrefused
pub mod Runs
