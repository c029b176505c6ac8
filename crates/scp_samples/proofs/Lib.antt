mod Falls
mod Prepared
mod Successors
