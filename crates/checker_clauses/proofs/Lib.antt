pub mod ClauseLaws
pub mod Following
pub mod Judging
pub mod Bounds
pub mod FirstViolations
pub mod Worked
