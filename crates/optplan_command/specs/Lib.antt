pub mod Translating
pub mod Migrating
pub mod Options
pub mod SolveWords
pub mod SolvingCommands
pub mod FileCommands
pub mod Requests
