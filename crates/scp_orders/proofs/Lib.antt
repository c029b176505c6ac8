pub mod ForColumns
mod OrderLists
