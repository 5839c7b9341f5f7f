pub mod Steps
pub mod Judged
