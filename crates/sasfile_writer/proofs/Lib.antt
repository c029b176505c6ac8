pub mod Appends
pub mod FactLaws
pub mod PlanLaws
pub mod LineLaws
pub mod PartLaws
pub mod OperatorLaws
pub mod WholeLaws
