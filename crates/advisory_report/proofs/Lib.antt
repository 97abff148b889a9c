pub mod Strongest
pub mod Adding
pub mod Steps
pub mod Stretching
