pub mod Measuring
pub mod Checking
