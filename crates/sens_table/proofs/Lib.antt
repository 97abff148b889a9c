pub mod Bounds
pub mod Runs
