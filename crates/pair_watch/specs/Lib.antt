pub mod Watching
pub mod Causes
pub mod Intervals
