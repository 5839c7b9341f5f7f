pub mod Cells
pub mod Finding
pub mod Going
pub mod Landings
pub mod Making
pub mod Stepping
