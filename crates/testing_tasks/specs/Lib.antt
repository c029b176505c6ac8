pub mod SmallTasks
