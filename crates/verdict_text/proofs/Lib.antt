pub mod Parts
pub mod Barring
pub mod Copies
