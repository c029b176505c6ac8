pub mod Written
pub mod TextOrder
pub mod Worked
pub mod Plans
