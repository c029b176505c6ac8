pub mod TieOrders
pub mod Queues
