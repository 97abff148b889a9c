pub mod Steps
pub mod Lasting
pub mod Sending
pub mod Putting
pub mod Lapsing
pub mod Cutting
pub mod Watched
