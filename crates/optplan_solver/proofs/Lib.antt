pub mod PlanTexts
pub mod StageEnds
pub mod ThreadEnds
pub mod KnownByStages
pub mod KindCopies
pub mod ReducedFindings
pub mod SearchedTasks
pub mod WrittenAnswers
