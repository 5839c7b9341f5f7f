pub mod Appended
mod Fresh
pub mod Piles
pub mod Traced
