pub mod Means
pub mod Promises
pub mod Steps
