mod ColumnOrders
mod PoolMappings
