pub mod Noting
pub mod Numbers
pub mod Takings
pub mod Reading
pub mod Copies
pub mod Lines
