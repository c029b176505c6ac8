pub mod Replying
pub mod Refusals
pub mod Printed
pub mod Texts
