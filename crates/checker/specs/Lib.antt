pub mod Contents
pub mod Judged
