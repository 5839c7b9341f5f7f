pub mod Exactness
pub mod Cases
