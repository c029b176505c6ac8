pub mod Translations
pub mod Migrations
pub mod Operands
pub mod Refusals
pub mod Requests
pub mod PlainRequests
