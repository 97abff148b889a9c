pub mod Reading
pub mod Links
