pub mod Capacity
pub mod Taken
