pub mod Contents
pub mod Found
