pub mod Machine
pub mod Maps
pub mod Practice
pub mod Theorems
