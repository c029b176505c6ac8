pub mod Bounds
pub mod DigitLaws
pub mod FactLaws
pub mod PatternLaws
