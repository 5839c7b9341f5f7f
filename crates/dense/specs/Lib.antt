pub mod Rows
pub mod LawTests
pub mod HintRows
pub mod ValidityTests
pub mod Theorems
