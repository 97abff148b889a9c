pub mod Projection
pub mod Gained
