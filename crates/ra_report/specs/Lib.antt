pub mod Blocks
pub mod Stories
