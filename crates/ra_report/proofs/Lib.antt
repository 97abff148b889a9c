pub mod Ranges
pub mod Course
pub mod Keeping
pub mod Putting
