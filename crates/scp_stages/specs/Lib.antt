pub mod StageOrders
