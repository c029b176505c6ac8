pub mod ShareLaws
pub mod Transitions
pub mod Standing
pub mod AllApart
pub mod InTasks
pub mod Texts
pub mod Making
