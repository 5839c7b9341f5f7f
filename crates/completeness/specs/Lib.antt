pub mod Rights
pub mod Items
