pub mod Recording
pub mod Records
