pub mod Grammar
pub mod Trees
pub mod Values
pub mod Told
