pub mod Expanding
pub mod Forms
pub mod Replays
