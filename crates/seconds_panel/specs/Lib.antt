pub mod Own
pub mod Seconds
pub mod Lines
pub mod Panel
pub mod Laws
