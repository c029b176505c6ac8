pub mod Bounds
pub mod Elements
pub mod RowLaws
pub mod RuleLaws
pub mod TableLaws
pub mod TransitionLaws
pub mod WordLaws
