pub mod Kept
pub mod Parsing
