pub mod Steps
pub mod PlanWords
pub mod PlanTexts
pub mod States
pub mod Verdicts
pub mod Validation
pub mod Written
pub mod LowCosts
