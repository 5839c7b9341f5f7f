pub mod Opening
pub mod Tokens
