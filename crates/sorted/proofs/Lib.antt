pub mod Chunks
pub mod Finds
pub mod Halving
pub mod Told
