mod Fresh
pub mod Stacking
