pub mod Composing
pub mod Costs
pub mod SmallCosts
pub mod TaskTexts
pub mod Greatest
