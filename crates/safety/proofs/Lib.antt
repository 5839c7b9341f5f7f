pub mod Depths
pub mod Lowest
pub mod OnTop
