pub mod Division
pub mod Root
pub mod Clamp
pub mod Seconds
pub mod Tracks
