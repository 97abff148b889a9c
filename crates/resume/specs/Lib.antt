pub mod Filling
pub mod Phases
pub mod Steps
