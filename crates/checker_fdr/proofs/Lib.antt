pub mod ShortTexts
pub mod FirstFound
pub mod ClassRows
pub mod OneAnswer
