pub mod Bits
pub mod Items
pub mod Rights
pub mod Rules
