pub mod Reading
pub mod Noting
pub mod Adding
pub mod Each
