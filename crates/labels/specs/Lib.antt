pub mod Clock
pub mod Parts
pub mod Labels
