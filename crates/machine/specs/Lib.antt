pub mod Calls
pub mod Marked
pub mod Promise
pub mod Reading
pub mod Runs
