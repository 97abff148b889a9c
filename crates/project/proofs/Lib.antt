pub mod Closed
pub mod Mirrored
