pub mod Prefixes
pub mod Rows
pub mod GoodTakes
pub mod Keeping
