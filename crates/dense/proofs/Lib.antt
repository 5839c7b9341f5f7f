pub mod Entries
pub mod Lawful
pub mod Hints
pub mod Valid
