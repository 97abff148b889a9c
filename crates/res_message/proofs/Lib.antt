pub mod Fields
pub mod Flips
pub mod Distance
