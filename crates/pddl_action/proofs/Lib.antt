pub mod Noted
pub mod Orders
pub mod Parts
pub mod Schemas
pub mod Unlimited
