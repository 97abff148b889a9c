pub mod Ranges
pub mod Telling
pub mod NamedNotes
