pub mod Changes
pub mod Words
pub mod Tables
pub mod Rules
