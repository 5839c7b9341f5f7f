pub mod Same
pub mod Held
