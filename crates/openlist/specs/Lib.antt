pub mod BucketLists
pub mod BucketOrder
pub mod Groups
pub mod Halves
pub mod Heaps
pub mod OpenLists
