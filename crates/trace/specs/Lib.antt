pub mod Grown
pub mod Meaning
pub mod Piles
pub mod Records
