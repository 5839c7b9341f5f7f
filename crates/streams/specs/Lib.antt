pub mod Limited
pub mod Listed
pub mod Rekinded
