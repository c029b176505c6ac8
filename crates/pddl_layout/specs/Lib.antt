pub mod Shapes
pub mod Sections
pub mod Tokens
pub mod Agreements
