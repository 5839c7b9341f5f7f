pub mod Joins
pub mod Minutes
pub mod Spans
