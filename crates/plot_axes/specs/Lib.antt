pub mod Clock
pub mod Scale
pub mod Steps
pub mod Time
