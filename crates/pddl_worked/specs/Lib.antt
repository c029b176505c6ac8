pub mod Noop
pub mod Road
pub mod Drive
pub mod Grip
