pub mod Bounded
pub mod Ticking
