pub mod Reading
pub mod Marking
pub mod Slots
pub mod Befalling
pub mod Telling
pub mod Counting
