pub mod Automaton
pub mod Completeness
pub mod Hints
pub mod Lawful
pub mod Safety
pub mod Validity
pub mod Slips
