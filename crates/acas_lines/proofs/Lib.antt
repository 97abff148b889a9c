pub mod Splitting
pub mod Counted
pub mod Ranges
pub mod FirstLine
