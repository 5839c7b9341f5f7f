pub mod Events
pub mod Recorded
